-- A list seen by number: a test that passes everywhere, what a search finds, and one element changed.
-- Assumes nothing.
use Prim.Native.Nat.{ℕ, zero, suc, ◌+◌, ◌<◌, ◌≤◌}
use mathlib.Core.Path.{◌≡◌, refl, sym, ◌∙◌}
use mathlib.Core.Logic.{◌≢◌}
use mathlib.Core.Bool.{Bool, true, false, ◌&&◌}
use mathlib.Core.List.{List, [], ◌∷◌, map}
use native.Mathlib.Decide.{ℕ_discrete, dec_le}
use native.Mathlib.Omega.{arith}
use lib.ListN.{length, get_or, set, replicate, length-set, get_or-map, get_or-eq_default}
use lib.Seq.{get_or-set_same, get_or-set_other}
use Rattle.std.specs.Prelude.{Some, None}
use Rattle.paper.proofs.Tests.{both}
use Rattle.paper.specs.Lists.{all, lowest_from, lowest, numbered, put_at}

pub both_true : (a c : Bool) → a ≡ true → c ≡ true → a && c ≡ true
both_true a c p q = rw p q

module _ {A : Type 0} (f : A → Bool) (d : A) where
  -- a test that passes at every element passes at every index, where it passes at the default
  pub all_anywhere : f d ≡ true → (xs : List A) → all f xs ≡ true → (i : ℕ) → f (get_or xs i d) ≡ true
  all_anywhere z [] e i = z
  all_anywhere z (x ∷ xs) e zero = (both (f x) (all f xs) e).0
  all_anywhere z (x ∷ xs) e (suc i) = all_anywhere z xs (both (f x) (all f xs) e).1 i

  pub all_by : (xs : List A) → ((i : ℕ) → f (get_or xs i d) ≡ true) → all f xs ≡ true
  all_by [] g = refl
  all_by (x ∷ xs) g = both_true (f x) (all f xs) (g 0) (all_by xs (λ i. g (suc i)))

  pub all_numbered : f d ≡ true → (xs : List A) → all f xs ≡ true → (n : ℕ) → f (numbered d xs n) ≡ true
  unfolding numbered
  all_numbered z xs e zero = z
  all_numbered z xs e (suc i) = all_anywhere z xs e i

  pub numbered_all : (xs : List A) → ((n : ℕ) → f (numbered d xs n) ≡ true) → all f xs ≡ true
  unfolding numbered
  numbered_all xs g = all_by xs (λ i. g (suc i))

  -- what a search finds: the first that passes, or that none does
  data SearchFrom (k : ℕ) (xs : List A) : Type 0 where
    found : (i : ℕ) → lowest_from f k xs ≡ Some (k + i) → i < length xs → f (get_or xs i d) ≡ true → SearchFrom k xs
    missed : lowest_from f k xs ≡ None → ((i : ℕ) → i < length xs → f (get_or xs i d) ≡ false) → SearchFrom k xs

  search_from : (k : ℕ) (xs : List A) → SearchFrom k xs
  unfolding lowest_from
  search_from k [] = missed refl (λ i h. absurd (omega arith))
  search_from k (x ∷ xs) = go (f x) refl (search_from (suc k) xs)
    where
      go : (b : Bool) → f x ≡ b → SearchFrom (suc k) xs → SearchFrom k (x ∷ xs)
      go true e r = let z : k ≡ k + 0 = omega arith in found 0 (rw e (λ i. Some (z i))) (omega arith) e
      go false e (found i g h p) =
          let z : suc k + i ≡ k + suc i = omega arith in
          found (suc i) (rw (e, g) (λ j. Some (z j))) (omega arith) p
      go false e (missed g h) = missed (rw (e, g)) below
        where
          below : (i : ℕ) → i < suc (length xs) → f (get_or (x ∷ xs) i d) ≡ false
          below zero l = e
          below (suc i) l = h i (omega arith)

  pub data Search (xs : List A) : Type 0 where
    found : (n : ℕ) → lowest f xs ≡ Some n → 1 ≤ n → n ≤ length xs → f (numbered d xs n) ≡ true → Search xs
    missed : lowest f xs ≡ None → ((n : ℕ) → 1 ≤ n → n ≤ length xs → f (numbered d xs n) ≡ false) → Search xs

  pub search_of : (xs : List A) → Search xs
  unfolding numbered
  search_of xs = go (search_from 1 xs)
    where
      go : SearchFrom 1 xs → Search xs
      go (SearchFrom.found i g h p) =
          let z : 1 + i ≡ suc i = omega arith in
          Search.found (suc i) (g ∙ λ j. Some (z j)) (omega arith) h p
      go (SearchFrom.missed g h) = Search.missed g below
        where
          below : (n : ℕ) → 1 ≤ n → n ≤ length xs → f (numbered d xs n) ≡ false
          below zero l u = absurd (omega arith)
          below (suc i) l u = h i u

module _ {A : Type 0} (d : A) (xs : List A) where
  -- what is not the default stands at a number of the list
  pub numbered_in : (P : A → Type 0) (n : ℕ) → (P d → ⊥) → P (numbered d xs n) → (1 ≤ n) × (n ≤ length xs)
  unfolding numbered
  numbered_in P zero no-d p = absurd (no-d p)
  numbered_in P (suc i) no-d p = go (dec_le (suc i) (length xs))
    where
      go : Dec (suc i ≤ length xs) → (1 ≤ suc i) × (suc i ≤ length xs)
      go (yes h) = (omega arith, h)
      go (no h) = absurd (no-d (rw (get_or-eq_default xs d {n = i} (omega arith)) at p))

  -- one element changed, seen from every number
  pub put_else : (n : ℕ) (x : A) (j : ℕ) → j ≢ n → numbered d (put_at n x xs) j ≡ numbered d xs j
  unfolding numbered put_at
  put_else zero x j ne = refl
  put_else (suc k) x zero ne = refl
  put_else (suc k) x (suc i) ne = get_or-set_other xs k i x d (λ e. ne (omega arith))

  pub put_here : (n : ℕ) (x : A) → 1 ≤ n → n ≤ length xs → numbered d (put_at n x xs) n ≡ x
  unfolding numbered put_at
  put_here zero x lo hi = absurd (omega arith)
  put_here (suc k) x lo hi = get_or-set_same xs k x d hi

  module _ (n : ℕ) (x : A) (lo : 1 ≤ n) (hi : n ≤ length xs) where
    pub at_put : (P : ℕ → A → Type 0) → P n x → ((j : ℕ) → j ≢ n → P j (numbered d xs j)) → (j : ℕ) → P j (numbered d (put_at n x xs) j)
    at_put P here else j = go (ℕ_discrete j n)
      where
        go : Dec (j ≡ n) → P j (numbered d (put_at n x xs) j)
        go (yes e) = rw (e, put_here n x lo hi) here
        go (no ne) = rw (put_else n x j ne) (else j ne)

    pub at_put₂ : (R : ℕ → ℕ → A → A → Type 0) → R n n x x → ((j : ℕ) → j ≢ n → R n j x (numbered d xs j))
        → ((j : ℕ) → j ≢ n → R j n (numbered d xs j) x) → ((j k : ℕ) → R j k (numbered d xs j) (numbered d xs k))
        → (j k : ℕ) → R j k (numbered d (put_at n x xs) j) (numbered d (put_at n x xs) k)
    at_put₂ R nn nj jn jk =
        at_put (λ j y. (k : ℕ) → R j k y (numbered d (put_at n x xs) k))
        (at_put (λ k z. R n k x z) nn nj)
        (λ j ne. at_put (λ k z. R j k (numbered d xs j) z) (jn j ne) (λ k _. jk j k))

pub length_put : {A : Type 0} (n : ℕ) (x : A) (xs : List A) → length (put_at n x xs) ≡ length xs
unfolding put_at
length_put zero x xs = refl
length_put (suc k) x xs = length-set xs k x

-- the same by index
pub at_set : {A : Type 0} (d : A) (xs : List A) (i : ℕ) (x : A) → i < length xs → (P : ℕ → A → Type 0) → P i x → ((j : ℕ) → j ≢ i → P j (get_or xs j d))
    → (j : ℕ) → P j (get_or (set xs i x) j d)
at_set d xs i x h P here else j = go (ℕ_discrete j i)
  where
    go : Dec (j ≡ i) → P j (get_or (set xs i x) j d)
    go (yes e) = rw (e, get_or-set_same xs i x d h) here
    go (no ne) = rw (get_or-set_other xs i j x d ne) (else j ne)

-- a list of zeros, and an element of a mapped list
pub at-replicate : {A : Type 0} (l i : ℕ) (a : A) → get_or (replicate l a) i a ≡ a
at-replicate zero i a = refl
at-replicate (suc l) zero a = refl
at-replicate (suc l) (suc i) a = at-replicate l i a

pub numbered-map : {A : Type 0} (g : A → A) (d : A) → g d ≡ d → (xs : List A) (n : ℕ) → numbered d (map g xs) n ≡ g (numbered d xs n)
unfolding numbered
numbered-map g d z xs zero = sym z
numbered-map g d z xs (suc i) = rw z at (get_or-map g xs i d)
