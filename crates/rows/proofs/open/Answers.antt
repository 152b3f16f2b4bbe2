-- `open` reads the header under the stored clock; the owner that it checks is that of the slot that the read found.
use mathlib.Core.Path.{◌≡◌, sym, ap, ◌∙◌}
use Rattle.std.proofs.lemmas.Result.{err_from_is_err_and}
use Rattle.paper.specs.declared.Header.{Header}
use Rattle.paper.specs.Tables.{header_at}
use Rattle.paper.specs.Bytes.{hs_from}
use Rattle.records.proofs.Places.{header_place}
use Rattle.stores.specs.Geometry.{of_slot}
use Rattle.rows.proofs.Opening.{open_ends, open_owned, open_refused}
use Rattle.rows.proofs.open.Goals.{After-header}
use Rattle.rows.proofs.open.Goals as goal

pub returns-in_err-slot-clause-steps : goal.returns-in_err-slot-clause-steps
returns-in_err-slot-clause-steps c =
    let p = err_from_is_err_and c.from_residual.result c.from_residual.ensures.1 in
    λ ps. rw (p.1, p.2) (open_ends _ _ _ _ _ ps _ c.read_header.ensures _ (ap of_slot c.in_err-slot.was))

-- the header that was read is the one in that slot
owner : (c : After-header) → (header_at (hs_from c.set_clock.new.headers) c.in_ok-slot.slot.number).owner ≡ c.header.result.owner
owner c =
    let i = c.in_ok-slot.slot.within in
    ap (λ (h : Header). h.owner) (header_place _ _ i.0 i.1 ∙ sym c.header.ensures)

pub returns-then-header-client-clause-steps : goal.returns-then-header-client-clause-steps
returns-then-header-client-clause-steps c ps =
    open_refused _ _ _ _ _ ps _ c.read_header.ensures _ (ap of_slot c.in_ok-slot.was) (λ e. c.if-header-client.true (sym (owner (goal.at.returns-then-header-client-clause-steps c).After-header) ∙ e))

pub returns-clause-steps : goal.returns-clause-steps
returns-clause-steps c ps = open_owned _ _ _ _ _ ps _ c.read_header.ensures _ (ap of_slot c.in_ok-slot.was) (owner (goal.at.returns-clause-steps c).After-header ∙ c.if-header-client.false)
