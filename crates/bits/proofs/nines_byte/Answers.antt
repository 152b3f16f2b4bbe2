-- `nines_byte` is byte j of the packed numbers: the field of its 8 bits is that of its first j and that of the others.
use mathlib.Core.Path.{◌≡◌, refl, sym, ap, ap₂, ◌∙◌}
use Prim.Native.Nat.{ℕ, ◌+◌, ◌-◌, ◌*◌, ◌%◌, ◌^◌, ◌<◌}
use native.Mathlib.Omega.{arith}
use lib.ListN.{length, get_or}
use lib.Pow.{shl_exact}
use Rattle.bits.specs.Field.{field, pack, half_nines}
use Rattle.bits.proofs.Layouts.{length_pack, pack_bytes}
use Rattle.bits.proofs.Fields.{field_lt, field-join, byte}
use Rattle.bits.proofs.nines_byte.Goals.{After-begins}
use Rattle.bits.proofs.nines_byte.Goals as goal

abbrev wanted : After-begins → ℕ
wanted c = get_or (pack half_nines c.args.ids.now) c.args.j 0

small : (c : After-begins) → wanted c < 256
small c = pack_bytes half_nines c.args.ids.now c.args.j

sum : (c : After-begins) → (c.ends.result * 2 ^ (8 - c.args.j)) % 65536 + c.begins.result ≡ wanted c
sum c =
    let j = c.args.j in
    let vs = c.args.ids.now in
    let b = pack half_nines vs in
    let l : length b ≡ 9 = length_pack half_nines 9 refl vs in
    let w : j + (8 - j) ≡ 8 = omega arith in
    let o : 9 * j ≡ 8 * j + j = omega arith in
    let x : (field (8 * j) j b * 2 ^ (8 - j)) % 65536 ≡ field (8 * j) j b * 2 ^ (8 - j) =
    shl_exact j (8 - j) 16 (field_lt (8 * j) j b) (omega arith) in
    ap₂ (λ (m n : ℕ). (m * 2 ^ (8 - j)) % 65536 + n) c.ends.ensures c.begins.ensures
    ∙ ap₂ (λ (m n : ℕ). m + field n (8 - j) b) x o
    ∙ sym (field-join (8 * j) j (8 - j) b (omega arith)) ∙ ap (λ (n : ℕ). field (8 * j) n b) w
    ∙ sym (byte j (8 * j) b (pack_bytes half_nines vs) (omega arith) refl)

pub overflow_add-result : goal.overflow_add-result
overflow_add-result c = record { fits = omega (arith, sum (goal.at.overflow_add-result c).After-begins, small (goal.at.overflow_add-result c).After-begins) }

pub overflow_cast-result-2 : goal.overflow_cast-result-2
overflow_cast-result-2 c = record { fits = omega (arith, sum (goal.at.overflow_cast-result-2 c).After-begins, small (goal.at.overflow_cast-result-2 c).After-begins) }

pub returns : goal.returns
returns c = sum (goal.at.returns c).After-begins
