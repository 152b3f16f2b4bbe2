-- The words on lists and tests that the rules are written in. Every test is a Bool, so that it computes.
use Rattle.std.specs.Prelude.{ℕ, zero, suc, Bool, true, not, ◌&&◌, cond, List, [], ◌∷◌, get_or, set, eqb, Option, Some, None}

module _ {A : Type 0} where
  -- the test passes at every element
  abbrev pub all : (A → Bool) → List A → Bool
  all f [] = true
  all f (x ∷ xs) = f x && all f xs

  -- how many pass
  abbrev pub count : (A → Bool) → List A → ℕ
  count f [] = 0
  count f (x ∷ xs) = cond (f x) (suc (count f xs)) (count f xs)

  -- the elements that pass
  abbrev pub those : (A → Bool) → List A → List A
  those f [] = []
  those f (x ∷ xs) = cond (f x) (x ∷ those f xs) (those f xs)

  -- the number of the first that passes, where the list's first has number n
  unfoldable pub lowest_from : (A → Bool) → ℕ → List A → Option ℕ
  lowest_from f n [] = None
  lowest_from f n (x ∷ xs) = cond (f x) (Some n) (lowest_from f (suc n) xs)

  -- slots are numbered from 1
  abbrev pub lowest : (A → Bool) → List A → Option ℕ
  lowest f xs = lowest_from f 1 xs

  -- the one with number n, or d where there is none
  unfoldable pub numbered : A → List A → ℕ → A
  numbered d xs zero = d
  numbered d xs (suc k) = get_or xs k d

  -- the list with x at number n
  unfoldable pub put_at : ℕ → A → List A → List A
  put_at zero x xs = xs
  put_at (suc k) x xs = set xs k x

-- x is none of the list
abbrev pub absent : ℕ → List ℕ → Bool
absent x [] = true
absent x (y ∷ ys) = not (eqb x y) && absent x ys

-- no number stands twice
abbrev pub distinct : List ℕ → Bool
distinct [] = true
distinct (x ∷ xs) = absent x xs && distinct xs

abbrev pub is_zero : ℕ → Bool
is_zero n = eqb n 0
