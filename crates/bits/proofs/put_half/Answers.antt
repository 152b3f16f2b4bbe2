-- `put_half` splices in the packed numbers, whose bytes are made one by one.
use mathlib.Core.Path.{◌≡◌, refl, sym, ◌∙◌}
use native.Mathlib.Omega.{arith}
use lib.ListN.{length, get_or}
use Rattle.bits.specs.Field.{pack, half_nines}
use Rattle.bits.proofs.Layouts.{length_pack}
use Rattle.bits.proofs.Splice.{splice_range}
use Rattle.std.proofs.Common.{rules}
use Rattle.std.proofs.lemmas.List.{ext_get_or}
use Rattle.bits.proofs.put_half.Goals as goal

pub returns : goal.returns
returns c =
    let s = c in
    let b = pack half_nines s.args.ids.now in
    let long : length b ≡ 9 = length_pack half_nines 9 refl s.args.ids.now in
    let made = c.from_fn-bytes.ensures.items in
    let same : c.from_fn-bytes.result ≡ b = ext_get_or 0 c.from_fn-bytes.result b (made.long ∙ sym long) (λ i h.
    let called = made.at i 0 (omega (arith, made.long, h)) in
    let e : get_or c.from_fn-bytes.result i 0 ≡ get_or b i 0 = search rules in
    e) in
    splice_range s.args.at b s.args.s.now refl (omega (arith, long)) (c.copy_from_slice.ensures.after ∙ same)
