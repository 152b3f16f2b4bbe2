-- `zero_slot` writes zeros over slot n and nothing else.
use mathlib.Core.Path.{◌≡◌, ap, ◌∙◌}
use Prim.Native.Nat.{ℕ, ◌+◌, ◌-◌, ◌*◌}
use native.Mathlib.Omega.{arith}
use lib.ListN.{length, take, drop, replicate, length-replicate}
use Rattle.bits.proofs.Splice.{splice_range}
use Rattle.std.proofs.Common.{rules}
use Rattle.records.proofs.zero_slot.Goals as goal

pub returns : goal.returns
returns c =
    let s = c in
    let at = c.slot_range.ensures in
    let w = 8 + s.args.size in
    let a = (s.args.n - 1) * w in
    let xs = s.args.pages.now in
    let long : length (take (c.slot_range.result.end - c.slot_range.result.start) (drop c.slot_range.result.start xs)) ≡ w = search rules in
    splice_range a (replicate w 0) xs at.0 (omega (arith, at.1, length-replicate {A = ℕ} w 0)) (c.zero.ensures ∙ ap (λ (k : ℕ). replicate k 0) long)
