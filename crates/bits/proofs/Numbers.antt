-- A number and the values that a layout cuts it into determine each other.
-- Assumes nothing.
use mathlib.Core.Path.{◌≡◌, refl, sym, ap, ap₂, ◌∙◌}
use mathlib.Core.List.{List, [], ◌∷◌, ◌++◌}
use Prim.Native.Nat.{ℕ, suc, ◌+◌, ◌*◌, ◌/◌, ◌%◌, ◌^◌, ◌<◌}
use native.Mathlib.Nat.{add_comm, add-mul, mul_assoc, zero-mul, zero-add, mod-lt, div-one, div-eq_of_lt}
use native.Mathlib.Omega.{arith}
use lib.ListN.{length}
use lib.Pow.{pow_pos, pow-add, shr-shr, high, low, split}
use Rattle.bits.specs.Field.{total, join, cut, Within}
use Rattle.bits.specs.Field.Within.{none, one}

shr_more : (n t w : ℕ) → n / 2 ^ (w + t) ≡ n / 2 ^ t / 2 ^ w
shr_more n t w = ap (λ (k : ℕ). n / 2 ^ k) (add_comm w t) ∙ sym (shr-shr n t w)

-- what stands before the values
pub join-shr : {ws vs : List ℕ} (acc : ℕ) → Within ws vs → join acc ws vs / 2 ^ total ws ≡ acc
join-shr acc none = div-one acc
join-shr acc (one {w = w} {v = v} {ws = ws} {vs = vs} h r) =
    shr_more (join (acc * 2 ^ w + v) ws vs) (total ws) w
    ∙ ap (λ (n : ℕ). n / 2 ^ w) (join-shr (acc * 2 ^ w + v) r) ∙ high acc w h

pub cut-join : {ws vs : List ℕ} (acc : ℕ) → Within ws vs → cut ws (join acc ws vs) ≡ vs
cut-join acc none = refl
cut-join acc (one {w = w} {v = v} {ws = ws} {vs = vs} h r) =
    ap₂ {C = List ℕ} (λ (x : ℕ) (l : List ℕ). x ∷ l)
    (ap (λ (n : ℕ). n % 2 ^ w) (join-shr (acc * 2 ^ w + v) r) ∙ low acc w h)
    (cut-join (acc * 2 ^ w + v) r)

pub join-cut : (ws : List ℕ) (n : ℕ) → join (n / 2 ^ total ws) ws (cut ws n) ≡ n
join-cut [] n = div-one n
join-cut (w ∷ ws) n =
    ap (λ (a : ℕ). join (a * 2 ^ w + n / 2 ^ total ws % 2 ^ w) ws (cut ws n)) (shr_more n (total ws) w)
    ∙ ap (λ (a : ℕ). join a ws (cut ws n)) (split (n / 2 ^ total ws) w)
    ∙ join-cut ws n

pub cut_within : (ws : List ℕ) (n : ℕ) → Within ws (cut ws n)
cut_within [] n = none
cut_within (w ∷ ws) n = one (mod-lt (n / 2 ^ total ws) (pow_pos w)) (cut_within ws n)

pub length_cut : (ws : List ℕ) (n : ℕ) → length (cut ws n) ≡ length ws
length_cut [] n = refl
length_cut (w ∷ ws) n = ap suc (length_cut ws n)

lt_of_shr_0 : (n k : ℕ) → n / 2 ^ k ≡ 0 → n < 2 ^ k
lt_of_shr_0 n k e =
    omega (
      arith,
      mod-lt n (pow_pos k),
      sym (split n k) ∙ ap (λ (x : ℕ). x * 2 ^ k + n % 2 ^ k) e ∙ ap (λ (x : ℕ). x + n % 2 ^ k) (zero-mul (2 ^ k)),
    )

pub join_lt : {ws vs : List ℕ} → Within ws vs → join 0 ws vs < 2 ^ total ws
join_lt {ws} {vs} r = lt_of_shr_0 (join 0 ws vs) (total ws) (join-shr 0 r)

pub join_cut_0 : (ws : List ℕ) (n : ℕ) → n < 2 ^ total ws → join 0 ws (cut ws n) ≡ n
join_cut_0 ws n h = ap (λ (a : ℕ). join a ws (cut ws n)) (sym (div-eq_of_lt h)) ∙ join-cut ws n

pub join_acc : {ws vs : List ℕ} (acc : ℕ) → Within ws vs → join acc ws vs ≡ acc * 2 ^ total ws + join 0 ws vs
join_acc acc none = omega arith
join_acc acc (one {w = w} {v = v} {ws = ws} {vs = vs} h r) =
    let t : ℕ = 2 ^ total ws in
    let e : (acc * 2 ^ w + v) * t ≡ acc * 2 ^ (w + total ws) + v * t =
    add-mul (acc * 2 ^ w) v t ∙ ap (λ (x : ℕ). x + v * t) (mul_assoc acc (2 ^ w) t ∙ ap (λ (x : ℕ). acc * x) (sym (pow-add 2 w (total ws)))) in
    let z : (0 * 2 ^ w + v) * t ≡ v * t = ap (λ (x : ℕ). (x + v) * t) (zero-mul (2 ^ w)) ∙ ap (λ (x : ℕ). x * t) (zero-add v) in
    omega (arith, join_acc (acc * 2 ^ w + v) r, join_acc (0 * 2 ^ w + v) r, e, z)

pub join-append : {ws vs : List ℕ} (acc : ℕ) (ws' vs' : List ℕ) → Within ws vs → join acc (ws ++ ws') (vs ++ vs') ≡ join (join acc ws vs) ws' vs'
join-append acc ws' vs' none = refl
join-append acc ws' vs' (one {w = w} {v = v} h r) = join-append (acc * 2 ^ w + v) ws' vs' r

pub total-append : (ws ws' : List ℕ) → total (ws ++ ws') ≡ total ws + total ws'
total-append [] ws' = omega arith
total-append (w ∷ ws) ws' = omega (arith, total-append ws ws')
