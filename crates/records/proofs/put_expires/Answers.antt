-- `put_expires` writes slot n and nothing else.
use mathlib.Core.Path.{◌≡◌, ap, ◌∙◌}
use mathlib.Core.List.{List}
use Prim.Native.Nat.{ℕ, ◌+◌, ◌-◌, ◌*◌}
use native.Mathlib.Omega.{arith}
use lib.ListN.{length, take, drop, length-drop}
use lib.Seq.{length-take-le}
use Rattle.bits.proofs.Splice.{splice_range}
use Rattle.paper.specs.Stores.{expiring}
use Rattle.paper.specs.Bytes.{slot_bytes, slot_from}
use Rattle.records.proofs.Records.{slot_long}
use Rattle.std.proofs.Common.{rules}
use Rattle.records.proofs.put_expires.Goals as goal

pub returns : goal.returns
unfolding slot_from
returns c =
    let s = c in
    let at = c.slot_range.ensures in
    let w = 8 + s.args.size in
    let a = (s.args.n - 1) * w in
    let xs = s.args.pages.now in
    let slot = take w (drop a xs) in
    let long : length slot ≡ w = length-take-le w (drop a xs) (omega (arith, length-drop a xs)) in
    let same : take (c.slot_range.result.end - c.slot_range.result.start) (drop c.slot_range.result.start xs) ≡ slot = search rules in
    let renewed = expiring s.args.expires (slot_from slot) in
    splice_range a (slot_bytes renewed) xs at.0 (omega (arith, at.1, slot_long renewed, length-drop 8 slot))
    (c.renew.ensures ∙ ap (λ (r : List ℕ). slot_bytes (expiring s.args.expires (slot_from r))) same)
