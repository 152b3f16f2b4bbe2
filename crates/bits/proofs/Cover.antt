-- A field depends only on the bytes that cover it.
-- Assumes nothing.
use mathlib.Core.Path.{◌≡◌, refl, sym, ap, ap₂, ◌∙◌, subst}
use mathlib.Core.List.{List, [], ◌∷◌, ◌++◌}
use Prim.Native.Nat.{ℕ, zero, suc, ◌+◌, ◌-◌, ◌*◌, ◌/◌, ◌%◌, ◌^◌, ◌<◌, ◌≤◌}
use native.Mathlib.Omega.{arith}
use lib.ListN.{length, take, drop, length-append, length-drop, take-append-drop}
use lib.Seq.{length-take-le, get_or-drop}
use lib.Pow as P
use lib.Pow.{pow_pos, shr-shr, high, low, mod-mod-pow}
use Rattle.bits.specs.Field.{join, eights, value, front, field, Bytes}
use Rattle.bits.proofs.Numbers.{join_acc}
use Rattle.bits.proofs.Layouts.{total-eights, bytes_within, value_lt}

append-join : (acc : ℕ) (p q : List ℕ) → join acc (eights (length (p ++ q))) (p ++ q) ≡ join (join acc (eights (length p)) p) (eights (length q)) q
append-join acc [] q = refl
append-join acc (x ∷ p) q = append-join (acc * 2 ^ 8 + x) p q

pub value-append : (p q : List ℕ) → Bytes q → value (p ++ q) ≡ value p * 2 ^ (8 * length q) + value q
unfolding value
value-append p q b =
    append-join 0 p q ∙ join_acc (value p) (bytes_within q b)
    ∙ ap (λ (k : ℕ). value p * 2 ^ k + value q) (total-eights (length q))

pub field-take : (o w : ℕ) (p q : List ℕ) → Bytes q → o + w ≤ 8 * length p → field o w (p ++ q) ≡ field o w p
unfolding field front
field-take o w p q b h =
    let n = 8 * length p - (o + w) in
    let e : 8 * length (p ++ q) - (o + w) ≡ 8 * length q + n = omega (arith, length-append p q) in
    ap (λ (k : ℕ). value (p ++ q) / 2 ^ k % 2 ^ w) e
    ∙ ap (λ (k : ℕ). k % 2 ^ w) (sym (shr-shr (value (p ++ q)) (8 * length q) n))
    ∙ ap (λ (k : ℕ). k / 2 ^ n % 2 ^ w)
    (ap (λ (k : ℕ). k / 2 ^ (8 * length q)) (value-append p q b) ∙ high (value p) (8 * length q) (value_lt q b))

pub field-drop : (o w : ℕ) (p q : List ℕ) → Bytes q → o + w ≤ 8 * length q → field (8 * length p + o) w (p ++ q) ≡ field o w q
unfolding field front
field-drop o w p q b h =
    let t = 8 * length q - (o + w) in
    let v = value (p ++ q) in
    let e : 8 * length (p ++ q) - (8 * length p + o + w) ≡ t = omega (arith, length-append p q) in
    let j : o + (w + t) ≡ 8 * length q = omega arith in
    let m : v % 2 ^ (w + t) ≡ value q % 2 ^ (w + t) =
    sym (mod-mod-pow v o (w + t)) ∙ ap (λ (k : ℕ). v % 2 ^ k % 2 ^ (w + t)) j
    ∙ ap (λ (k : ℕ). k % 2 ^ (w + t))
    (ap (λ (k : ℕ). k % 2 ^ (8 * length q)) (value-append p q b) ∙ low (value p) (8 * length q) (value_lt q b)) in
    ap (λ (k : ℕ). v / 2 ^ k % 2 ^ w) e
    ∙ sym (P.field v w t) ∙ ap (λ (k : ℕ). k / 2 ^ t) m ∙ P.field (value q) w t

pub bytes-take : (k : ℕ) (xs : List ℕ) → Bytes xs → Bytes (take k xs)
bytes-take zero xs b i = pow_pos 8
bytes-take (suc k) [] b i = pow_pos 8
bytes-take (suc k) (x ∷ xs) b zero = b 0
bytes-take (suc k) (x ∷ xs) b (suc i) = bytes-take k xs (λ j. b (suc j)) i

pub bytes-drop : (a : ℕ) (xs : List ℕ) → Bytes xs → Bytes (drop a xs)
bytes-drop a xs b i = subst (λ (n : ℕ). n < 2 ^ 8) (sym (get_or-drop a xs i 0)) (b (a + i))

pub bytes-append : (xs ys : List ℕ) → Bytes xs → Bytes ys → Bytes (xs ++ ys)
bytes-append [] ys bx by i = by i
bytes-append (x ∷ xs) ys bx by zero = bx 0
bytes-append (x ∷ xs) ys bx by (suc i) = bytes-append xs ys (λ j. bx (suc j)) by i

-- A field within the k bytes from byte a on is a field of those bytes.
pub window : (a k o' o w : ℕ) (xs : List ℕ) → Bytes xs → a + k ≤ length xs → o' ≡ 8 * a + o → o + w ≤ 8 * k → field o' w xs ≡ field o w (take k (drop a xs))
window a k o' o w xs b h e f =
    let la : length (take a xs) ≡ a = length-take-le a xs (omega arith) in
    let ld : length (drop a xs) ≡ length xs - a = length-drop a xs in
    let lk : length (take k (drop a xs)) ≡ k = length-take-le k (drop a xs) (omega arith) in
    let eo : o' ≡ 8 * length (take a xs) + o = omega arith in
    ap₂ (λ (n : ℕ) (l : List ℕ). field n w l) eo (sym (take-append-drop a xs))
    ∙ field-drop o w (take a xs) (drop a xs) (bytes-drop a xs b) (omega arith)
    ∙ ap (λ (l : List ℕ). field o w l) (sym (take-append-drop k (drop a xs)))
    ∙ field-take o w (take k (drop a xs)) (drop k (drop a xs)) (bytes-drop k (drop a xs) (bytes-drop a xs b)) (omega arith)

-- Bytes that agree on the k from byte a on have the same fields there.
pub covered : (a k o w : ℕ) (xs ys : List ℕ) → Bytes xs → Bytes ys → a + k ≤ length xs → a + k ≤ length ys → take k (drop a xs) ≡ take k (drop a ys) → o + w ≤ 8 * k
    → field (8 * a + o) w xs ≡ field (8 * a + o) w ys
covered a k o w xs ys bx by lx ly e f =
    window a k (8 * a + o) o w xs bx lx refl f ∙ ap (field o w) e ∙ sym (window a k (8 * a + o) o w ys by ly refl f)
