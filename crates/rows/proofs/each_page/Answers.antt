-- `each_page`: from page k on, what is left of the row gives what the whole row gives.
use mathlib.Core.Path.{◌≡◌, ap, ◌∙◌}
use native.Mathlib.Omega.{arith}
use lib.ListN.{length}
use Rattle.std.proofs.lemmas.Result.{err_from_is_err_and}
use Rattle.stores.specs.Geometry.{of_known}
use Rattle.rows.specs.Rows.{each_deed}
use Rattle.rows.proofs.PageRows.{row_goes_on, row_stops, row_ends}
use Rattle.std.proofs.Common.{rules}
use Rattle.rows.proofs.each_page.Goals as goal

pub returns-in_err-one_page : goal.returns-in_err-one_page
unfolding each_deed
returns-in_err-one_page c =
    let p = err_from_is_err_and c.from_residual.result c.from_residual.ensures.1 in
    let sixteen : length c.args.ids ≡ 16 = search rules in
    rw (p.1, p.2) (row_stops _ _ _ _ _ _ 16 sixteen _ _ _ c.loop-id.invariant.1 _ _ _ _ c.loop-id-test.true c.one_page.ensures _ (ap (of_known 0) c.in_err-one_page.was))

pub loop-id-preserved : goal.loop-id-preserved
unfolding each_deed
loop-id-preserved c =
    let sixteen : length c.args.ids ≡ 16 = search rules in (
      search rules,
      row_goes_on _ _ _ _ _ _ 16 sixteen _ _ _ c.loop-id.invariant.1 _ _ _ _ c.loop-id-test.true c.one_page.ensures _ (ap (of_known 0) c.in_ok-one_page.was),
    )

pub returns : goal.returns
unfolding each_deed
returns c =
    let sixteen : length c.args.ids ≡ 16 = search rules in
    row_ends _ _ _ _ _ _ 16 sixteen _ _ _ c.loop-id.invariant.1 c.loop-id.auto.id-index-end c.loop-id-test.false
