-- The lowest of a list that passes a test: what `find` gives over the numbers 1 to the list's length, and that what it finds is there.
-- Assumes nothing.
use Prim.Native.Nat.{ℕ, zero, suc, ◌+◌, ◌<◌, ◌≤◌}
use mathlib.Core.Path.{◌≡◌, refl, sym, ap, ◌∙◌}
use mathlib.Core.Bool.{Bool, true, false}
use mathlib.Core.List.{List, [], ◌∷◌}
use native.Mathlib.Omega.{arith}
use denote.Param.Members.{Mut}
use denote.Ref.{Bor}
use lib.ListN.{length, get_or}
use Rattle.std.specs.Prelude.{Option, Some, None}
use Rattle.std.specs.declared.ops.Range.{Range}
use Rattle.std.specs.Fn.{CalledAt}
use Rattle.std.specs.Option.{MatchOption}
use Rattle.std.specs.Iterator.{FindsItem}
use Rattle.std.proofs.iter.Yields.{nat_range_steps}
use Rattle.std.proofs.lemmas.Iterator.{first_from_Range}
use Rattle.paper.specs.Lists.{lowest_from, lowest, numbered}

module _ {A : Type 0} (f : A → Bool) (d : A) where
  none : (k : ℕ) (xs : List A) → ((i : ℕ) → i < length xs → false ≡ f (get_or xs i d)) → lowest_from f k xs ≡ None
  unfolding lowest_from
  none k [] h = refl
  none k (x ∷ xs) h = rw (← h 0 (omega arith)) (none (suc k) xs (λ i l. h (suc i) (omega arith)))

  first : (k i : ℕ) (xs : List A) → i < length xs → true ≡ f (get_or xs i d) → ((j : ℕ) → j < i → false ≡ f (get_or xs j d)) → lowest_from f k xs ≡ Some (i + k)
  unfolding lowest_from
  first k i [] l e h = absurd (omega arith)
  first k zero (x ∷ xs) l e h = rw (← e) (ap Some (omega arith))
  first k (suc i) (x ∷ xs) l e h = rw (← h 0 (omega arith)) (first (suc k) i xs (omega arith) e (λ j m. h (suc j) (omega arith)) ∙ ap Some (omega arith))

  module _ (xs : List A) where
    -- the test says b of the element with number n, if there is one
    abbrev Says : Bool → ℕ → Type 0
    Says b n = 1 ≤ n → n ≤ length xs → b ≡ f (numbered d xs n)

    lowest_is : (r : Option ℕ)
        → MatchOption r ((n : ℕ) → 1 ≤ n → n < length xs + 1 → Says false n) (λ i. (1 ≤ i) × (i < length xs + 1) × Says true i × ((n : ℕ) → 1 ≤ n → n < i → Says false n))
        → r ≡ lowest f xs
    unfolding numbered
    lowest_is None h = sym (none 1 xs (λ i l. h (suc i) (omega arith) (omega arith) (omega arith) (omega arith)))
    lowest_is (Some zero) h = absurd (omega arith)
    lowest_is (Some (suc i)) h =
        sym (first 1 i xs (omega arith) (h.2 (omega arith) (omega arith)) (λ j m. h.3 (suc j) (omega arith) (omega arith) (omega arith) (omega arith)) ∙ ap Some (omega arith))

    -- `find` over 1 to the length, by a closure that tests the element of each number
    pub found_lowest : {F : Type 0} {g : Mut F (Bor ℕ × Unit {0}) Bool} (s u : Range ℕ) (p : F) (r : Option ℕ) → FindsItem nat_range_steps g s p r u → s.start ≡ 1 → s.end ≡ length xs + 1
        → ((n : ℕ) (b : Bool) (q : F) → CalledAt g p n b q → (q ≡ p) × Says b n) → r ≡ lowest f xs
    found_lowest s u p r ran a b k =
        lowest_is r (rw (a, b) at (first_from_Range s u p r (Says true) (Says false) ran (λ n q c. (k n true q c).1) (λ n q c. k n false q c)))

-- what is found is a number of the list
within_from : {A : Type 0} (f : A → Bool) (k n : ℕ) (xs : List A) → lowest_from f k xs ≡ Some n → (k ≤ n) × (n < k + length xs)
unfolding lowest_from
within_from f k n [] h = let z : ◌≡◌ {A = ℕ} 0 1 = cc in absurd (omega arith)
within_from f k n (x ∷ xs) h = go (f x) refl (within_from f (suc k) n xs)
  where
    go : (b : Bool) → f x ≡ b → (lowest_from f (suc k) xs ≡ Some n → (suc k ≤ n) × (n < suc k + length xs)) → (k ≤ n) × (n < k + suc (length xs))
    go true e ih = let z : Some k ≡ Some n = rw e at h in let z' : k ≡ n = cc in (omega arith, omega arith)
    go false e ih = let i = ih (rw e at h) in (omega arith, omega arith)

pub lowest_within : {A : Type 0} (f : A → Bool) (n : ℕ) (xs : List A) → lowest f xs ≡ Some n → (1 ≤ n) × (n ≤ length xs)
lowest_within f n xs h = let i = within_from f 1 n xs h in (i.0, omega arith)
