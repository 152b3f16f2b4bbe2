-- Bytes are the layout of eights, and over any layout of whole bytes the values and the bytes determine each other.
-- Assumes nothing.
use mathlib.Core.Path.{◌≡◌, refl, sym, ap, ap₂, ◌∙◌, subst}
use mathlib.Core.List.{List, [], ◌∷◌}
use Prim.Native.Nat.{ℕ, zero, suc, ◌*◌, ◌/◌, ◌^◌, ◌<◌}
use native.Mathlib.Omega.{arith}
use lib.ListN.{length, length-replicate}
use lib.Pow.{pow_pos}
use Rattle.bits.specs.Field.{total, join, cut, eights, be, value, pack, unpack, Within, Bytes}
use Rattle.bits.specs.Field.Within.{none, one}
use Rattle.bits.proofs.Numbers.{cut-join, cut_within, length_cut, join_lt, join_cut_0}

pub total-eights : (k : ℕ) → total (eights k) ≡ 8 * k
total-eights zero = refl
total-eights (suc k) = omega (arith, total-eights k)

pub bytes_within : (xs : List ℕ) → Bytes xs → Within (eights (length xs)) xs
bytes_within [] b = none
bytes_within (x ∷ xs) b = one (b 0) (bytes_within xs (λ i. b (suc i)))

pub within_bytes : (k : ℕ) {xs : List ℕ} → Within (eights k) xs → Bytes xs
within_bytes zero none i = pow_pos 8
within_bytes (suc k) (one h r) zero = h
within_bytes (suc k) (one h r) (suc i) = within_bytes k r i

pub value_lt : (xs : List ℕ) → Bytes xs → value xs < 2 ^ (8 * length xs)
unfolding value
value_lt xs b = subst (λ (k : ℕ). value xs < 2 ^ k) (total-eights (length xs)) (join_lt (bytes_within xs b))

pub bytes_value : (xs : List ℕ) → Bytes xs → be (length xs) (value xs) ≡ xs
unfolding value
bytes_value xs b = cut-join 0 (bytes_within xs b)

pub value_bytes : (k n : ℕ) → n < 2 ^ (8 * k) → value (be k n) ≡ n
unfolding value
value_bytes k n h =
    ap (λ (m : ℕ). join 0 (eights m) (be k n)) (length_cut (eights k) n ∙ length-replicate k 8)
    ∙ join_cut_0 (eights k) n (subst (λ (m : ℕ). n < 2 ^ m) (sym (total-eights k)) h)

pub value_same : (xs ys : List ℕ) → Bytes xs → Bytes ys → length xs ≡ length ys → value xs ≡ value ys → xs ≡ ys
value_same xs ys bx by l e = sym (bytes_value xs bx) ∙ ap₂ be l e ∙ bytes_value ys by

pub pack_bytes : (ws vs : List ℕ) → Bytes (pack ws vs)
unfolding pack
pack_bytes ws vs = within_bytes (total ws / 8) (cut_within _ _)

pub unpack_within : (ws xs : List ℕ) → Within ws (unpack ws xs)
unfolding unpack
unpack_within ws xs = cut_within ws _

module _ (ws : List ℕ) (k : ℕ) (whole : total ws ≡ 8 * k) where
  pub length_pack : (vs : List ℕ) → length (pack ws vs) ≡ k
  unfolding pack
  length_pack vs = length_cut (eights (total ws / 8)) _ ∙ length-replicate (total ws / 8) 8 ∙ omega arith

  pub value_pack : (vs : List ℕ) → Within ws vs → value (pack ws vs) ≡ join 0 ws vs
  unfolding pack
  value_pack vs r =
      let e : 8 * (total ws / 8) ≡ total ws = omega arith in
      value_bytes (total ws / 8) (join 0 ws vs) (subst (λ (m : ℕ). join 0 ws vs < 2 ^ m) (sym e) (join_lt r))

  pub unpack_pack : (vs : List ℕ) → Within ws vs → unpack ws (pack ws vs) ≡ vs
  unfolding unpack
  unpack_pack vs r = ap (cut ws) (value_pack vs r) ∙ cut-join 0 r

  pub pack_unpack : (xs : List ℕ) → Bytes xs → length xs ≡ k → pack ws (unpack ws xs) ≡ xs
  unfolding pack unpack
  pack_unpack xs b l =
      let e : total ws / 8 ≡ length xs = omega arith in
      let f : 8 * length xs ≡ total ws = omega arith in
      ap₂ be e (join_cut_0 ws (value xs) (subst (λ (m : ℕ). value xs < 2 ^ m) f (value_lt xs b))) ∙ bytes_value xs b

  pub unpack_injective : (xs ys : List ℕ) → Bytes xs → Bytes ys → length xs ≡ k → length ys ≡ k → unpack ws xs ≡ unpack ws ys → xs ≡ ys
  unpack_injective xs ys bx by lx ly e = sym (pack_unpack xs bx lx) ∙ ap (pack ws) e ∙ pack_unpack ys by ly
