-- `held_each` tests each page id but 0 against its slot and the map, and marks it: what is gathered and what is left decide.
use Prim.Native.Nat.{◌<◌}
use mathlib.Core.Path.{sym, ap, ◌∙◌}
use native.Mathlib.Omega.{arith}
use lib.ListN.{length, length-set}
use Rattle.sound.proofs.Records.{held_null}
use Rattle.sound.proofs.Seen.{walk_null, walk_id, walk_ends}
use Rattle.sound.proofs.held_each.Goals.{then-n-ne0, else-n-ne0}
use Rattle.sound.proofs.held_each.Goals as goal

pub loop-p-preserved : goal.loop-p-preserved
loop-p-preserved c =
    let l = c.loop-p in
    let h : l.p-index < length c.args.ids.now = omega arith in
    elim c.if-n-ne0.branch [
      | then-n-ne0 w ↦ (
        ap length w.seen-is ∙ simp length-set l.invariant.0,
        rw (w.seen-is, w.good-is) (walk_id l.invariant.1 h _ c.from-n.ensures (omega arith) _ w.page_held-held.ensures),
      )
      | else-n-ne0 w ↦
          let z = sym c.from-n.ensures ∙ w.if-n-ne0.false in
          (ap length w.seen-is ∙ l.invariant.0, rw (w.seen-is, w.good-is) (walk_null l.invariant.1 h z (held_null _ _ _ _ z)))
    ]

pub returns-clause-value : goal.returns-clause-value
returns-clause-value c = (walk_ends c.loop-p.invariant.1 (omega arith)).0

pub returns-clause-marks : goal.returns-clause-marks
returns-clause-marks c = (walk_ends c.loop-p.invariant.1 (omega arith)).1
