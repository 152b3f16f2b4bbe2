-- `one_page` is a row over one page: a step where there is a page, none otherwise.
use native.Mathlib.Omega.{arith}
use Rattle.rows.specs.Rows.{deed_on, each_deed}
use Rattle.rows.proofs.PageRows.{no_page_rowed, page_rowed}
use Rattle.rows.proofs.one_page.Goals as goal

pub returns-then-id-eq0 : goal.returns-then-id-eq0
unfolding each_deed
returns-then-id-eq0 c = let a = c.args in no_page_rowed a.pass (deed_on a.bank a.deed) _ _ _ _ c.if-id-eq0.true

pub returns : goal.returns
unfolding each_deed
returns c =
    let a = c.args in
    page_rowed a.pass (deed_on a.bank a.deed) _ _ _ _ _ _ _ (omega arith) c.deed_step.ensures (c.passed_over.ensures _)
