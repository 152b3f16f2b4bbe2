-- `ends` is the field of the first j bits of byte j: they are the last bits of number j - 1, whose field ends there.
use mathlib.Core.Path.{◌≡◌, refl, sym, ap₂, ◌∙◌, subst}
use Prim.Native.Nat.{ℕ, ◌-◌, ◌*◌, ◌%◌, ◌^◌, ◌<◌}
use native.Mathlib.Nat.{one-mul}
use native.Mathlib.Omega.{arith}
use lib.ListN.{length}
use lib.Pow.{shl_exact, pow_pos}
use Rattle.bits.specs.Field.{pack, half_nines}
use Rattle.bits.proofs.Within.{within_length}
use Rattle.bits.proofs.Layouts.{length_pack}
use Rattle.bits.proofs.Fields.{field_back, field_none, packed}
use Rattle.bits.proofs.ends.Goals as goal

pub returns-then-j-eq0 : goal.returns-then-j-eq0
returns-then-j-eq0 c =
    let s = c in
    field_none (8 * s.args.j) s.args.j (pack half_nines s.args.ids.now) (omega arith)

pub bounds-ids-j : goal.bounds-ids-j
bounds-ids-j c = omega (arith, within_length c.requires.1)

one_shl : (j : ℕ) → j < 9 → (1 * 2 ^ j) % 65536 ≡ 2 ^ j
one_shl j h = shl_exact {a = 1} 1 j 16 (omega arith) (omega arith) ∙ one-mul (2 ^ j)

pub nonzero_rem-result : goal.nonzero_rem-result
nonzero_rem-result c =
    let j = c.args.j in
    subst (λ (n : ℕ). 0 < n) (sym (one_shl j (omega arith))) (pow_pos j)

pub returns : goal.returns
returns c =
    let s = c in
    let j = s.args.j in
    let vs = s.args.ids.now in
    let b = pack half_nines vs in
    let i = j - 1 in
    let l : length b ≡ 9 = length_pack half_nines 9 refl vs in
    ap₂ (λ (m n : ℕ). m % n) (sym (packed 8 9 9 i vs refl s.requires.1 (omega arith))) (one_shl j (omega arith))
    ∙ field_back (9 * i) 9 (8 * j) j b (omega arith) (omega arith) (omega arith)
