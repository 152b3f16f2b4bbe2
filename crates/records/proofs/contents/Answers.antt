-- `contents` is what stands behind the first eight bytes of slot n.
use mathlib.Core.Path.{◌≡◌, ap, ◌∙◌}
use Prim.Native.Nat.{◌+◌, ◌-◌, ◌*◌}
use native.Mathlib.Omega.{arith}
use lib.ListN.{length, take, drop, length-drop}
use lib.Seq.{take_all}
use Rattle.paper.specs.Bytes.{slot_from}
use Rattle.std.proofs.Common.{rules}
use Rattle.records.proofs.contents.Goals as goal

pub returns : goal.returns
unfolding slot_from
returns c =
    let s = c in
    let part = take (c.slot_range.result.end - c.slot_range.result.start) (drop c.slot_range.result.start s.args.pages.now) in
    let same : part ≡ take (8 + s.args.size) (drop ((s.args.n - 1) * (8 + s.args.size)) s.args.pages.now) = search rules in
    take_all (length part - 8) (drop 8 part) (omega (arith, length-drop 8 part)) ∙ ap (drop 8) same
