-- `zero_header` writes zeros over the record at n times 36 and nothing else.
use mathlib.Core.Path.{◌≡◌, ap, ◌∙◌}
use Prim.Native.Nat.{◌≤◌, ℕ, ◌-◌, ◌*◌}
use native.Mathlib.Omega.{arith}
use lib.Seq.{length-take-le}
use lib.ListN.{length-drop, length, take, drop, replicate}
use Rattle.bits.proofs.Splice.{splice_range}
use Rattle.records.proofs.zero_header.Goals as goal

pub returns : goal.returns
returns c =
    let s = c in
    let at = c.record_range.ensures in
    let xs = s.args.headers.now in
    let from = c.record_range.result.start in
    let to = c.record_range.result.end in
    let part : to - from ≤ length (drop from xs) = omega (arith, at.0, at.1, s.requires, length-drop from xs) in
    let long : length (take (to - from) (drop from xs)) ≡ 36 = length-take-le (to - from) (drop from xs) part ∙ omega (arith, at.0, at.1) in
    splice_range (s.args.n * 36) (replicate 36 0) xs at.0 at.1 (c.zero.ensures ∙ ap (λ (k : ℕ). replicate k 0) long)
