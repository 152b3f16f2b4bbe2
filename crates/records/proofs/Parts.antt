-- A list of bytes in n parts of k: records read from the parts and written to them, one of them, and one put in place.
-- Assumes nothing.
use mathlib.Core.Path.{◌≡◌, refl, ap, ap₂, ◌∙◌}
use mathlib.Core.List.{List, [], ◌∷◌, ◌++◌, map, append_assoc}
use Prim.Native.Nat.{ℕ, zero, suc, ◌+◌, ◌*◌, ◌<◌, ◌≤◌}
use native.Mathlib.Nat.{add_assoc, zero-add, zero-mul, suc-mul, not-suc-le-zero, le_of_suc-le-suc}
use native.Mathlib.Omega.{arith}
use lib.ListN.{length, get_or, take, drop, set, length-drop, take-append-drop}
use lib.Seq.{length-take-le, take_at, drop_at, take-add, drop-drop}
use Rattle.bits.specs.Field.{Bytes, splice}
use Rattle.bits.proofs.Cover.{bytes-take, bytes-drop}
use Rattle.paper.specs.Bytes.{parts, joined}
use Rattle.records.specs.Fits.{Each}
use Rattle.records.specs.Fits.Each.{none, one}

-- the first part and the others
module _ (k n : ℕ) (xs : List ℕ) (l : length xs ≡ suc n * k) where
  first_length : length (take k xs) ≡ k
  first_length = length-take-le k xs (omega (arith, suc-mul n k))

  rest_length : length (drop k xs) ≡ n * k
  rest_length = simp length-drop (omega (arith, suc-mul n k))

pub length_parts : (k n : ℕ) (xs : List ℕ) → length (parts k n xs) ≡ n
unfolding parts
length_parts k zero xs = refl
length_parts k (suc n) xs = ap suc (length_parts k n (drop k xs))

pub parts_joined : (k n : ℕ) (xs : List ℕ) → length xs ≡ n * k → joined (parts k n xs) ≡ xs
unfolding parts joined
parts_joined k zero [] l = refl
parts_joined k zero (x ∷ xs) l = absurd (omega (arith, zero-mul k))
parts_joined k (suc n) xs l =
    ap (λ (r : List ℕ). take k xs ++ r) (parts_joined k n (drop k xs) (rest_length k n xs l)) ∙ take-append-drop k xs

-- k bytes put at the start
pub splice_first : (k : ℕ) (ys xs : List ℕ) → length ys ≡ k → (take k (splice 0 ys xs) ≡ ys) × (drop k (splice 0 ys xs) ≡ drop k xs)
unfolding splice
splice_first k ys xs e = rw (zero-add, e) (take_at ys (drop k xs) k e, drop_at ys (drop k xs) k e)

-- bytes put after the first k
pub splice_later : (k at at' : ℕ) (ys xs : List ℕ) → k ≤ length xs → at' ≡ k + at
    → (take k (splice at' ys xs) ≡ take k xs) × (drop k (splice at' ys xs) ≡ splice at ys (drop k xs))
unfolding splice
splice_later k at at' ys xs h e =
    let l : length (take k xs) ≡ k = length-take-le k xs h in
    rw (e, take-add k at xs, append_assoc, add_assoc k at, ← drop-drop (at + length ys) k xs) (take_at (take k xs) _ k l, drop_at (take k xs) _ k l)

module _ {A : Type 0} (of : A → List ℕ) (from : List ℕ → A) (k : ℕ) where
  -- Records that fit are read back.
  pub parts_read : (P : A → Type 0) → ((x : A) → P x → length (of x) ≡ k) → ((x : A) → P x → from (of x) ≡ x)
      → {xs : List A} → Each P xs → map from (parts k (length xs) (joined (map of xs))) ≡ xs
  unfolding parts joined
  parts_read P long back none = refl
  parts_read P long back (one {x = x} {xs = xs} p r) =
      let rest = joined (map of xs) in
      ap₂ {C = List A} (λ (a : A) (l : List A). a ∷ l)
      (ap from (take_at (of x) rest k (long x p)) ∙ back x p)
      (ap (λ (l : List ℕ). map from (parts k (length xs) l)) (drop_at (of x) rest k (long x p)) ∙ parts_read P long back r)

  -- Parts that are written back as they were give the bytes that they were read from.
  pub parts_written : ((p : List ℕ) → Bytes p → length p ≡ k → of (from p) ≡ p) → (n : ℕ) (xs : List ℕ) → Bytes xs → length xs ≡ n * k
      → joined (map of (map from (parts k n xs))) ≡ xs
  unfolding parts
  parts_written back n xs b l = ap joined (go n xs b l) ∙ parts_joined k n xs l
    where
      go : (n : ℕ) (xs : List ℕ) → Bytes xs → length xs ≡ n * k → map of (map from (parts k n xs)) ≡ parts k n xs
      go zero xs b l = refl
      go (suc n) xs b l =
          ap₂ {C = List (List ℕ)} (λ (p : List ℕ) (ps : List (List ℕ)). p ∷ ps)
          (back (take k xs) (bytes-take k xs b) (first_length k n xs l))
          (go n (drop k xs) (bytes-drop k xs b) (rest_length k n xs l))

module _ {A : Type 0} (from : List ℕ → A) (k : ℕ) where
  pub parts_fit : (P : A → Type 0) → ((p : List ℕ) → Bytes p → length p ≡ k → P (from p)) → (n : ℕ) (xs : List ℕ) → Bytes xs → length xs ≡ n * k
      → Each P (map from (parts k n xs))
  unfolding parts
  parts_fit P fits zero xs b l = none
  parts_fit P fits (suc n) xs b l =
      one (fits (take k xs) (bytes-take k xs b) (first_length k n xs l)) (parts_fit P fits n (drop k xs) (bytes-drop k xs b) (rest_length k n xs l))

  pub part_at : (n i : ℕ) (xs : List ℕ) (d : A) → i < n → get_or (map from (parts k n xs)) i d ≡ from (take k (drop (i * k) xs))
  unfolding parts
  part_at zero i xs d h = absurd (not-suc-le-zero h)
  part_at (suc n) zero xs d h = rw zero-mul
  part_at (suc n) (suc i) xs d h =
      let e : suc i * k ≡ k + i * k = omega (arith, suc-mul i k) in
      rw (e, ← drop-drop) (part_at n i (drop k xs) d (le_of_suc-le-suc h))

  pub part_put : (n i : ℕ) (ys xs : List ℕ) {x : A} → i < n → length xs ≡ n * k → length ys ≡ k → from ys ≡ x
      → map from (parts k n (splice (i * k) ys xs)) ≡ set (map from (parts k n xs)) i x
  unfolding parts
  part_put zero i ys xs h l ly e = absurd (not-suc-le-zero h)
  part_put (suc n) zero ys xs h l ly e =
      let s = splice_first k ys xs ly in
      rw (zero-mul, s.0, s.1, e)
  part_put (suc n) (suc i) ys xs h l ly e =
      let s = splice_later k (i * k) (suc i * k) ys xs (omega (arith, suc-mul n k)) (omega (arith, suc-mul i k)) in
      rw (s.0, s.1) (ap (λ (r : List A). from (take k xs) ∷ r) (part_put n i ys (drop k xs) (le_of_suc-le-suc h) (rest_length k n xs l) ly e))
