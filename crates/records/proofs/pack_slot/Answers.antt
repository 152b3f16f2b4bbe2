-- `pack_slot` writes the head and copies the contents behind it.
use mathlib.Core.Path.{sym, ap, ◌∙◌}
use Prim.Native.Nat.{ℕ, ◌+◌, ◌*◌}
use Rattle.bits.specs.Field.{be, splice}
use Rattle.paper.specs.Bytes.{bit}
use Rattle.records.specs.Fits.{slot_with}
use Rattle.records.proofs.Write.{slot_parts, slot_over}
use Rattle.std.proofs.Common.{rules}
use Rattle.records.proofs.pack_slot.Goals as goal

pub returns : goal.returns
returns c =
    let c3 = c in
    let c2 = c3 in
    let c1 = c2 in
    let s = c1 in
    let h = s.args.head in
    let page = s.args.page.now in
    let xs = s.args.s.now in
    slot_over (bit h.lease.used * 2147483648 + h.spare) h.lease.expires page xs _ _ s.requires.0
    (c2.put32-2.ensures ∙ ap (splice 4 (be 4 h.lease.expires)) (c1.put32.ensures ∙ ap (λ (n : ℕ). splice 0 (be 4 n) xs) c1.first_word.ensures))
    c3.copy_from_slice.ensures.after
    ∙ sym (slot_parts (slot_with h page) s.requires.1 (search rules))
