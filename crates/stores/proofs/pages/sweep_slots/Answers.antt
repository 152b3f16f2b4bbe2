-- `sweep_slots` zeroes the expired slots in order: at number n the table is as a sweep of the slots leaves it there, and `swept` counts them.
use Prim.Native.Nat.{◌+◌}
use mathlib.Core.Path.{◌≡◌, ◌∙◌}
use native.Mathlib.Omega.{arith}
use Rattle.paper.specs.Ids.{page_id}
use Rattle.paper.specs.Tables.{slot_at, slot_expired}
use Rattle.paper.specs.Bytes.{ps_from}
use Rattle.records.proofs.Places.{slot_place}
use Rattle.stores.specs.Geometry.{Geometry}
use Rattle.stores.proofs.Sweep.{fails}
use Rattle.stores.proofs.Slots.{SweptSlots, sweep_starts, few_swept, sweep_passes, swept_slots}
use Rattle.stores.proofs.pages.sweep_slots.Goals.{Joined-is_expired, then-is_expired, else-is_expired}
use Rattle.stores.proofs.pages.sweep_slots.Goals as goal

pub loop-n-init : goal.loop-n-init
loop-n-init c = sweep_starts _ _ _

pub overflow_add-swept : goal.overflow_add-swept
overflow_add-swept c = omega (arith, few_swept _ _ _ _ _ _ c.loop-n.invariant, c.requires.few)

turn : (c : Joined-is_expired) → SweptSlots c.args.bank c.args.time c.args.pages.now (c.loop-n.n + 1) c.if-is_expired.pages c.if-is_expired.swept
turn c =
    let l = c.loop-n in
    let g : Geometry c.args.bank l.pages = record { few = c.requires.few; whole = l.auto.pages ∙ c.requires.whole } in
    let t : slot_expired c.args.time (slot_at c.args.bank (ps_from c.args.bank l.pages) (page_id l.n)) ≡ c.is_expired.result = rw (slot_place c.args.bank l.pages l.n (omega arith) (omega arith)) (grind arith) in
    elim c.if-is_expired.branch [
      | then-is_expired w ↦ rw (w.pages-is, w.swept-is) (sweep_passes c.args.bank _ _ _ _ _ l.invariant g (omega arith) (omega arith) w.zero_slot.ensures (t ∙ w.if-is_expired.true))
      | else-is_expired w ↦ rw (w.pages-is, w.swept-is) (fails l.invariant (t ∙ w.if-is_expired.false))
    ]

pub loop-n-preserved : goal.loop-n-preserved
loop-n-preserved c = turn (goal.at.loop-n-preserved c).Joined-is_expired

pub returns : goal.returns
returns c = swept_slots _ _ _ _ _ _ c.loop-n.invariant (omega arith)

pub returns-after-is_expired : goal.returns-after-is_expired
returns-after-is_expired c = swept_slots _ _ _ _ _ _ (turn (goal.at.returns-after-is_expired c).Joined-is_expired) (omega arith)
