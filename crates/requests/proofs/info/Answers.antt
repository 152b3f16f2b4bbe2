-- `info` tells the header of the slot that its one step found.
use Rattle.std.proofs.lemmas.Result.{err_from_is_err_and}
use Rattle.requests.proofs.Conditions.{at_slot}
use Rattle.requests.proofs.Replies.{info_stops, info_tells}
use Rattle.requests.proofs.info.Goals as goal

pub returns-in_err-slot : goal.returns-in_err-slot
returns-in_err-slot c =
    let r = err_from_is_err_and c.from_residual.result c.from_residual.ensures.1 in
    rw (r.1, r.2) (info_stops _ _ _ _ _ _ _ c.set_clock.ensures _ c.in_err-slot.ensures)

pub returns : goal.returns
returns c =
    info_tells _ _ _ _ _ _ _ c.set_clock.ensures _ _ _ c.in_ok-slot.ensures (at_slot _ c.in_ok-slot.slot _ c.header.ensures) c.from.ensures
