-- A sweep of a list, from number 1 on: each element that passes a test becomes z, which does not pass. How the list stands at number n, the turns, and the end.
-- Assumes nothing.
use Prim.Native.Nat.{ℕ, zero, suc, ◌+◌, ◌<◌, ◌≤◌}
use mathlib.Core.Path.{◌≡◌, refl, sym, ap, ◌∙◌}
use mathlib.Core.Bool.{Bool, true, false, cond}
use mathlib.Core.List.{List, [], ◌∷◌, map}
use native.Mathlib.Omega.{arith}
use borrow.Author.Count.{below_more}
use lib.ListN.{length, get_or, set}
use lib.Seq.{map-set_same}
use Rattle.paper.specs.Lists.{count, numbered, put_at}

module _ {A : Type 0} (f : A → Bool) (z : A) where
  abbrev pub cleared : List A → List A
  cleared = map (λ x. cond (f x) z x)

  count_few : (xs : List A) → count f xs ≤ length xs
  count_few [] = omega arith
  count_few (x ∷ xs) = go (f x) (count_few xs)
    where
      go : (b : Bool) → count f xs ≤ length xs → cond b (suc (count f xs)) (count f xs) ≤ suc (length xs)
      go true h = omega arith
      go false h = omega arith

  -- where none passes any more
  none_passes : (xs : List A) → ((k : ℕ) → k < length xs → f (get_or xs k z) ≡ false) → (cleared xs ≡ xs) × (count f xs ≡ 0)
  none_passes [] h = (refl, refl)
  none_passes (x ∷ xs) h =
      let r = none_passes xs (λ k l. h (suc k) (omega arith)) in
      let e : f x ≡ false = h 0 (omega arith) in
      (rw e (ap {B = List A} (λ l. x ∷ l) r.0), rw e r.1)

-- The sweep of xs has come to number n: the list is ys, none before n passes, and m have passed.
pub record Swept {A : Type 0} (f : A → Bool) (z : A) (xs : List A) (n : ℕ) (ys : List A) (m : ℕ) : Type 0 where
  pub rest : cleared f z ys ≡ cleared f z xs
  pub met : m + count f ys ≡ count f xs
  pub behind : (k : ℕ) → k < n → f (numbered z ys k) ≡ false

module _ {A : Type 0} (f : A → Bool) (z : A) (out : f z ≡ false) where
  count_set : (xs : List A) (k : ℕ) → f (get_or xs k z) ≡ true → count f (set xs k z) + 1 ≡ count f xs
  count_set [] k e = let c : true ≡ false = sym e ∙ out in cc
  count_set (x ∷ xs) zero e = rw (e, out) (omega arith)
  count_set (x ∷ xs) (suc k) e = go (f x) (count_set xs k e)
    where
      go : (b : Bool) → count f (set xs k z) + 1 ≡ count f xs → cond b (suc (count f (set xs k z))) (count f (set xs k z)) + 1 ≡ cond b (suc (count f xs)) (count f xs)
      go true h = omega arith
      go false h = omega arith

  out_set : (xs : List A) (j k : ℕ) → k ≤ j → (k < j → f (get_or xs k z) ≡ false) → f (get_or (set xs j z) k z) ≡ false
  out_set [] j k l h = out
  out_set (x ∷ xs) zero zero l h = out
  out_set (x ∷ xs) zero (suc k) l h = absurd (omega arith)
  out_set (x ∷ xs) (suc j) zero l h = h (omega arith)
  out_set (x ∷ xs) (suc j) (suc k) l h = out_set xs j k (omega arith) (λ m. h (omega arith))

  pub starts : (xs : List A) → Swept f z xs 1 xs 0
  unfolding numbered
  starts xs = record { rest = refl; met = omega arith; behind = first }
    where
      first : (k : ℕ) → k < 1 → f (numbered z xs k) ≡ false
      first zero h = out
      first (suc k) h = absurd (omega arith)

  pub passes : {xs ys : List A} {n m : ℕ} → Swept f z xs n ys m → f (numbered z ys n) ≡ true → Swept f z xs (n + 1) (put_at n z ys) (m + 1)
  unfolding numbered put_at
  passes {n = zero} s e = let c : true ≡ false = sym e ∙ out in cc
  passes {xs} {ys} {n = suc j} s e = record {
    rest = map-set_same (λ x. cond (f x) z x) ys j z z (rw (e, out)) ∙ s.rest;
    met = omega (arith, s.met, count_set ys j e);
    behind = all;
  }
    where
      all : (k : ℕ) → k < suc j + 1 → f (numbered z (set ys j z) k) ≡ false
      all zero h = out
      all (suc k) h = out_set ys j k (omega arith) (λ l. s.behind (suc k) (omega arith))

module _ {A : Type 0} {f : A → Bool} {z : A} {xs : List A} {n : ℕ} {ys : List A} {m : ℕ} (s : Swept f z xs n ys m) where
  pub met_few : m ≤ length xs
  met_few = omega (arith, s.met, count_few f z xs)

  pub fails : f (numbered z ys n) ≡ false → Swept f z xs (n + 1) ys m
  fails e = record { rest = s.rest; met = s.met; behind = below_more (λ k. f (numbered z ys k) ≡ false) n s.behind e }

  pub ends : length ys < n → (m ≡ count f xs) × (ys ≡ cleared f z xs)
  unfolding numbered
  ends h =
      let e = none_passes f z ys (λ k l. s.behind (suc k) (omega arith)) in
      (omega (arith, s.met, e.1), sym e.0 ∙ s.rest)
