-- `scavenge` is its two sweeps, one after the other.
use Rattle.std.proofs.lemmas.Result.{err_from_is_err_and}
use Rattle.requests.proofs.Replies.{scavenge_stops, scavenge_stops_later, scavenge_counts}
use Rattle.requests.proofs.scavenge.Goals as goal

pub returns-in_err-swept : goal.returns-in_err-swept
returns-in_err-swept c =
    let r = err_from_is_err_and c.from_residual.result c.from_residual.ensures.1 in
    rw (r.1, r.2) (scavenge_stops _ _ _ _ _ _ _ c.set_clock.ensures _ c.in_err-swept.ensures)

pub returns-in_err-freed : goal.returns-in_err-freed
returns-in_err-freed c =
    let r = err_from_is_err_and c.from_residual-in_err-freed.result c.from_residual-in_err-freed.ensures.1 in
    rw (r.1, r.2) (scavenge_stops_later _ _ _ _ _ _ _ c.set_clock.ensures _ c.in_ok-swept.ensures _ _ c.in_err-freed.ensures)

pub returns : goal.returns
returns c = scavenge_counts _ _ _ _ _ _ _ c.set_clock.ensures _ c.in_ok-swept.ensures _ _ c.in_ok-freed.ensures
