-- `sweep_headers` zeroes the expired headers in order: at number n the table is as a sweep of the headers leaves it there, and `swept` counts them.
use mathlib.Core.Path.{◌≡◌, ◌∙◌}
use native.Mathlib.Omega.{arith}
use Rattle.paper.specs.Tables.{header_at, header_expired}
use Rattle.paper.specs.Bytes.{hs_from}
use Rattle.records.proofs.Places.{header_place}
use Rattle.stores.proofs.HeaderSlots.{sweep_starts, few_swept, sweep_passes, sweep_fails, swept_headers}
use Rattle.stores.proofs.headers.sweep_headers.Goals.{then-is_expired, else-is_expired}
use Rattle.stores.proofs.headers.sweep_headers.Goals as goal

pub loop-n-init : goal.loop-n-init
loop-n-init c = sweep_starts _ _

pub overflow_add-swept : goal.overflow_add-swept
overflow_add-swept c = omega (arith, few_swept _ _ c.loop-n.invariant)

pub loop-n-preserved : goal.loop-n-preserved
loop-n-preserved c =
    let l = c.loop-n in
    let t : header_expired c.args.time (header_at (hs_from l.headers) l.n) ≡ c.is_expired.result = rw (header_place l.headers l.n (omega arith) (omega arith)) (grind arith) in
    elim c.if-is_expired.branch [
      | then-is_expired w ↦ rw (w.headers-is, w.swept-is) (sweep_passes _ _ l.invariant (omega arith) (omega arith) (omega arith) w.zero_header.ensures (t ∙ w.if-is_expired.true))
      | else-is_expired w ↦ rw (w.headers-is, w.swept-is) (sweep_fails _ _ l.invariant (t ∙ w.if-is_expired.false))
    ]

pub returns : goal.returns
returns c = swept_headers _ _ c.loop-n.invariant (omega arith)
