-- `destroy` clears the slot that was opened, and then the pages that its header named: sound tables name only slots of the bank.
use mathlib.Core.Path.{◌≡◌, ◌∙◌}
use native.Mathlib.Omega.{arith}
use Rattle.std.proofs.lemmas.Result.{err_from_is_err_and}
use Rattle.paper.specs.Tables.{header_at}
use Rattle.paper.specs.Bytes.{hs_from}
use Rattle.requests.proofs.Conditions.{at_slot}
use Rattle.requests.proofs.Named.{opens, read_named}
use Rattle.requests.proofs.Owned.{destroy_stops, destroy_stops_second, destroy_ends}
use Rattle.requests.proofs.destroy.Goals.{In_ok-slot, After-header-h}
use Rattle.requests.proofs.destroy.Goals as goal

pub returns-in_err-slot : goal.returns-in_err-slot
returns-in_err-slot c =
    let r = err_from_is_err_and c.from_residual.result c.from_residual.ensures.1 in
    rw (r.1, r.2) (destroy_stops _ _ _ _ _ _ _ _ c.open.ensures.headers_after _ (c.in_err-slot.ensures.steps _))

held : (c : After-header-h) → c.header-h.result ≡ header_at (hs_from c.open.new.headers) c.in_ok-slot.slot.number
held c = at_slot _ c.in_ok-slot.slot _ c.header-h.ensures

pub destroy_header-requires : goal.destroy_header-requires
destroy_header-requires c =
    (c.open.auto.headers ∙ c.requires.sound_tables.whole, c.in_ok-slot.slot.within.0, c.in_ok-slot.slot.within.1)

pub returns-in_err-destroy_header : goal.returns-in_err-destroy_header
returns-in_err-destroy_header c =
    let r = err_from_is_err_and c.from_residual-in_err-destroy_header.result c.from_residual-in_err-destroy_header.ensures.1 in
    rw (r.1, r.2)
    (destroy_stops_second _ _ _ _ _ _ _ _ c.open.ensures.headers_after _ _ (c.in_ok-slot.ensures.steps _) (held (goal.at.returns-in_err-destroy_header c).After-header-h) _ _ c.in_err-destroy_header.ensures)

pub each_page-requires-clause-taken_in_bounds : goal.each_page-requires-clause-taken_in_bounds
each_page-requires-clause-taken_in_bounds c =
    let found = opens _ c.in_ok-slot.slot _ _ _ c.args.outcomes.now _ c.requires.sound_tables c.requires.outcomes_len c.open.auto.headers c.open.ensures.headers_after in
    (omega (arith, c.requires.outcomes_len), read_named _ _ _ _ _ _ found c.header-h.ensures)

pub returns : goal.returns
returns c =
    destroy_ends _ _ _ _ _ _ _ _ c.open.ensures.headers_after _ _ (c.in_ok-slot.ensures.steps _) (held (goal.at.returns c).After-header-h) _ _ _ _
    c.in_ok-destroy_header.ensures c.each_page.ensures.1
