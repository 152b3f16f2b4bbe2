-- `read` copies the page that the header found names; sound tables name only slots of the bank.
use mathlib.Core.Path.{◌≡◌}
use native.Mathlib.Omega.{arith}
use Rattle.std.proofs.lemmas.Result.{err_from_is_err_and}
use Rattle.paper.specs.Tables.{header_at}
use Rattle.paper.specs.Bytes.{hs_from}
use Rattle.requests.proofs.Conditions.{at_slot}
use Rattle.requests.proofs.Named.{opens, page_read_named}
use Rattle.requests.proofs.Replies.{read_stops, read_finds_none, read_ends}
use Rattle.requests.proofs.read.Goals.{In_ok-slot, After-header}
use Rattle.requests.proofs.read.Goals as goal

pub returns-in_err-slot : goal.returns-in_err-slot
returns-in_err-slot c =
    let r = err_from_is_err_and c.from_residual.result c.from_residual.ensures.1 in
    rw (r.1, r.2) (read_stops _ _ _ _ _ _ _ _ _ c.set_clock.ensures _ c.in_err-slot.ensures)

held : (c : After-header) → c.header.result ≡ header_at (hs_from c.set_clock.new.headers) c.in_ok-slot.slot.number
held c = at_slot _ c.in_ok-slot.slot _ c.header.ensures

pub returns-then-p-eq0 : goal.returns-then-p-eq0
returns-then-p-eq0 c =
    read_finds_none _ _ _ _ _ _ _ _ _ c.set_clock.ensures _ _ _ c.in_ok-slot.ensures (held (goal.at.returns-then-p-eq0 c).After-header) c.page-p.ensures c.if-p-eq0.true

pub read_page-requires-clause-le_id : goal.read_page-requires-clause-le_id
read_page-requires-clause-le_id c =
    let found = opens _ c.in_ok-slot.slot _ _ _ c.args.outcomes.now _ c.requires.sound_tables c.requires.outcomes_len.0 c.set_clock.auto.headers c.set_clock.ensures in
    (omega (arith, c.if-p-eq0.false), page_read_named _ _ _ _ _ _ _ _ found c.header.ensures c.page-p.ensures, c.requires.outcomes_len.1)

pub returns : goal.returns
returns c =
    rw c.read_page.ensures.lent_page
    (read_ends _ _ _ _ _ _ _ _ _ c.set_clock.ensures _ _ _ c.in_ok-slot.ensures (held (goal.at.returns c).After-header) c.page-p.ensures c.if-p-eq0.false _ c.read_page.ensures.step)
