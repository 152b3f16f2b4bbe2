-- A list walked by its elements' numbers, from one on or all of them; and an or of bytes.
-- Assumes nothing.
use Prim.Native.Nat.{ℕ, zero, suc, ◌+◌, ◌-◌, ◌<◌, ◌≤◌}
use mathlib.Core.Path.{◌≡◌, refl, sym, ap, ap₂, ◌∙◌, subst}
use mathlib.Core.Bool.{Bool, true, false, not, ◌&&◌, and-false}
use mathlib.Core.List.{List, [], ◌∷◌}
use native.Mathlib.Omega.{arith}
use borrow.Author.Tests.{ne_eqb, eqb-true, eqb-false}
use denote.Param.Members.{Mut}
use lib.Bits.{bit_or, or_add_and, and_le_l, and_le_r, or_zero_l}
use lib.ListN.{length, drop, get_or, drop_of_length-le}
use lib.Seq.{drop-cons}
use lib.Dec.{eqb}
use Rattle.std.specs.Prelude.{Option}
use Rattle.std.specs.Bool.{MatchBool}
use Rattle.std.specs.Fn.{Called}
use Rattle.std.specs.Iterator.{YieldsThen}
use Rattle.std.specs.List.{FoldsTo, AllWithin, HoldsAt, range_with_len}
use Rattle.std.specs.Option.{MatchOption}
use Rattle.std.specs.declared.ops.Range.{Range}
use Rattle.std.proofs.iter.Yields.{nat_range_steps}
use Rattle.std.proofs.lemmas.Iterator.{YieldsList-from_range, cases_from_all}
use Rattle.std.proofs.lemmas.List.FromFn.{length-range_with_len, get_or-range_with_len}
use Rattle.paper.specs.Lists.{all, absent, is_zero, numbered}

-- an or is 0 where both are
pub or_zero : (a b : ℕ) → is_zero (bit_or a b) ≡ is_zero a && is_zero b
or_zero a b = go (is_zero a) refl
  where
    go : (t : Bool) → is_zero a ≡ t → is_zero (bit_or a b) ≡ t && is_zero b
    go true e = rw (eqb-true a 0 e, or_zero_l)
    go false e = ne_eqb _ _ (λ (z : bit_or a b ≡ 0). eqb-false a 0 e (omega (arith, or_add_and a b, and_le_l a b, and_le_r a b)))

abbrev pub other : ℕ → ℕ → Bool
other x y = not (eqb x y)

pub absent_all : (x : ℕ) (ys : List ℕ) → absent x ys ≡ all (other x) ys
absent_all x [] = refl
absent_all x (y ∷ ys) = ap (λ (b : Bool). other x y && b) (absent_all x ys)

-- from number n on: that one, and those from the next on
pub from_number : {A : Type 0} (d : A) (xs : List A) (n : ℕ) → 1 ≤ n → n ≤ length xs → drop (n - 1) xs ≡ numbered d xs n ∷ drop (n + 1 - 1) xs
unfolding numbered
from_number d xs zero lo hi = absurd (omega arith)
from_number d xs (suc k) lo hi =
    let e : suc k - 1 ≡ k = omega arith in
    let e' : suc k + 1 - 1 ≡ suc k = omega arith in
    rw (e, e', drop-cons xs k d)

pub past_all : {A : Type 0} (xs : List A) (n : ℕ) → length xs < n → drop (n - 1) xs ≡ []
past_all xs n h = drop_of_length-le xs {i = n - 1} (omega arith)

module _ {A : Type 0} (f : A → Bool) (d : A) where
  all_pass : (xs : List A) → ((k : ℕ) → k < length xs → f (get_or xs k d) ≡ true) → all f xs ≡ true
  all_pass [] h = refl
  all_pass (x ∷ xs) h = ap₂ (λ (a b : Bool). a && b) (h 0 (omega arith)) (all_pass xs (λ k l. h (suc k) (omega arith)))

  one_fails : (xs : List A) (k : ℕ) → k < length xs → f (get_or xs k d) ≡ false → all f xs ≡ false
  one_fails [] k l e = absurd (omega arith)
  one_fails (x ∷ xs) zero l e = ap (λ (b : Bool). b && all f xs) e
  one_fails (x ∷ xs) (suc k) l e = ap (λ (b : Bool). f x && b) (one_fails xs k (omega arith) e) ∙ and-false (f x)

  module _ (xs : List A) (n : ℕ) (long : length xs ≡ n) where
    number : (k : ℕ) → k < n → get_or (range_with_len 1 n) k 0 ≡ suc k
    number k h = get_or-range_with_len 1 n k 0 h ∙ omega arith

    by_numbers : (r : Bool)
        → MatchBool r (AllWithin (λ k. f (numbered d xs k) ≡ true) (range_with_len 1 n) 0 (length (range_with_len 1 n)))
        ((k : ℕ) × (k < length (range_with_len 1 n)) × HoldsAt (λ k. f (numbered d xs k) ≡ false) (range_with_len 1 n) k)
        → r ≡ all f xs
    unfolding numbered
    by_numbers true h =
        sym (all_pass xs (λ k l. subst (λ (i : ℕ). f (numbered d xs i) ≡ true) (number k (omega arith)) (h k 0 (omega arith) (omega (arith, length-range_with_len 1 n)))))
    by_numbers false h =
        let l : h.0 < n = omega (arith, length-range_with_len 1 n, h.1) in
        sym (one_fails xs h.0 (omega arith) (subst (λ (i : ℕ). f (numbered d xs i) ≡ false) (number h.0 l) (h.2 0)))

    -- the elements tested by their numbers, all of them or as far as the first that fails
    pub all_numbered : {F : Type 0} {g : Mut F (ℕ × Unit {0}) Bool} {h : F} {s u : Range ℕ} {r : Bool}
        → (ks : List ℕ) × (o : Option ℕ) × (j : F) × YieldsThen nat_range_steps s ks o u × FoldsTo (λ p k q. Called g p (k, tt) true q) h ks j
        × MatchOption o (r ≡ true) (λ k. (r ≡ false) × ((h' : F) × Called g j (k, tt) false h'))
        → s ≡ record { start = 1; end = n + 1 }
        → ((k : ℕ) (b : Bool) (h' : F) → Called g h (k, tt) b h' → (b ≡ f (numbered d xs k)) × (h' ≡ h)) → r ≡ all f xs
    all_numbered {h = h} {u = u} {r = r} ran e turn =
        by_numbers r
        (cases_from_all u h r (λ k. f (numbered d xs k) ≡ true) (λ k. f (numbered d xs k) ≡ false) ran
        (YieldsList-from_range 1 (n + 1) n e (omega arith))
        (λ k q c. let t = turn k true q c in (t.1, sym t.0))
        (λ k q c. sym (turn k false q c).0))
