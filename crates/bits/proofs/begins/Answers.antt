-- `begins` is the field of the last 8 - j bits of byte j: they are the first bits of number j, whose field starts there.
use mathlib.Core.Path.{◌≡◌, refl, sym, ap, ◌∙◌}
use Prim.Native.Nat.{ℕ, ◌+◌, ◌-◌, ◌*◌, ◌/◌, ◌^◌}
use native.Mathlib.Omega.{arith}
use lib.ListN.{length}
use Rattle.bits.specs.Field.{pack, half_nines}
use Rattle.bits.proofs.Within.{within_length}
use Rattle.bits.proofs.Layouts.{length_pack}
use Rattle.bits.proofs.Fields.{field_front, field_none, packed}
use Rattle.bits.proofs.begins.Goals as goal

pub returns-then-j-eq8 : goal.returns-then-j-eq8
returns-then-j-eq8 c =
    let s = c in
    field_none (9 * s.args.j) (8 - s.args.j) (pack half_nines s.args.ids.now) (omega arith)

pub bounds-ids-j : goal.bounds-ids-j
bounds-ids-j c = omega (arith, within_length c.requires.1)

pub returns : goal.returns
returns c =
    let s = c in
    let j = s.args.j in
    let vs = s.args.ids.now in
    let b = pack half_nines vs in
    let l : length b ≡ 9 = length_pack half_nines 9 refl vs in
    ap (λ (n : ℕ). n / 2 ^ (j + 1)) (sym (packed 8 9 9 j vs refl s.requires.1 (omega arith)))
    ∙ field_front (9 * j) 9 (8 - j) (j + 1) b (omega arith) (omega arith)
