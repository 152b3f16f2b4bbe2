-- `put_slot` writes slot n and nothing else.
use Prim.Native.Nat.{◌+◌, ◌-◌, ◌*◌}
use native.Mathlib.Omega.{arith}
use Rattle.bits.proofs.Splice.{splice_range}
use Rattle.paper.specs.Bytes.{slot_bytes}
use Rattle.records.specs.Fits.{slot_with}
use Rattle.records.proofs.Records.{slot_long}
use Rattle.records.proofs.put_slot.Goals as goal

pub returns : goal.returns
returns c =
    let s = c in
    let at = c.slot_range.ensures in
    let slot = slot_with s.args.head s.args.page.now in
    splice_range ((s.args.n - 1) * (8 + s.args.size)) (slot_bytes slot) s.args.pages.now at.0 (omega (arith, at.1, slot_long slot)) c.pack_slot.ensures
