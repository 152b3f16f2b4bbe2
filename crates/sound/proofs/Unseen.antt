-- Page ids over a map: none is marked, and each is marked when it is passed. Over a map with none marked that says that no id but 0 stands twice.
-- Assumes nothing.
use Prim.Native.Nat.{ℕ, zero, suc, ◌≤◌, ◌<◌}
use mathlib.Core.Path.{◌≡◌, refl, sym, ap, ap₂, ◌∙◌}
use mathlib.Core.Bool.{Bool, true, false, not, ◌&&◌, cond, and_assoc}
use mathlib.Core.List.{List, [], ◌∷◌, ◌++◌}
use native.Mathlib.Omega.{arith}
use borrow.Author.Tests.{ltb-true, leb-true, lt-ltb, eqb-true, eqb-false}
use lib.Dec.{eqb, leb, ltb, eqb-suc-zero, eqb-suc-suc}
use lib.ListN.{length, get_or, set, replicate, length-set}
use lib.Seq.{get_or-set_same, get_or-set_other}
use Rattle.paper.specs.declared.PageId.{PageId}
use Rattle.paper.specs.Lists.{all, those, absent, distinct, is_zero}
use Rattle.paper.specs.Bytes.{ids_of}
use Rattle.sound.specs.Seen.{Unmarked, id_within, is_marked, mark, marked, once}
use Rattle.paper.proofs.Tests.{both}

-- ids that are not marked, each marked when it is passed
unfoldable pub unseen : List Bool → List ℕ → Bool
unseen seen [] = true
unseen seen (n ∷ ns) = not (is_marked seen n) && unseen (mark seen n) ns

abbrev pub nonzero : ℕ → Bool
nonzero n = not (is_zero n)

pub unseen_append : (seen : List Bool) (xs ys : List ℕ) → unseen seen (xs ++ ys) ≡ unseen seen xs && unseen (marked seen xs) ys
unfolding unseen marked
unseen_append seen [] ys = refl
unseen_append seen (x ∷ xs) ys =
    ap (λ (t : Bool). not (is_marked seen x) && t) (unseen_append (mark seen x) xs ys)
    ∙ sym (and_assoc (not (is_marked seen x)) (unseen (mark seen x) xs) (unseen (marked (mark seen x) xs) ys))

keeps : (k : ℕ) (xs : List ℕ) → those nonzero (suc k ∷ xs) ≡ suc k ∷ those nonzero xs
keeps k xs = ap (λ (t : Bool). cond (not t) (suc k ∷ those nonzero xs) (those nonzero xs)) (eqb-suc-zero k)

-- 0 is passed over
pub unseen_nonzero : (seen : List Bool) (xs : List ℕ) → unseen seen (those nonzero xs) ≡ unseen seen xs
unfolding unseen is_marked mark
unseen_nonzero seen [] = refl
unseen_nonzero seen (zero ∷ xs) = unseen_nonzero seen xs
unseen_nonzero seen (suc k ∷ xs) = ap (unseen seen) (keeps k xs) ∙ ap (λ (t : Bool). not (get_or seen k false) && t) (unseen_nonzero (set seen k true) xs)

pub marked_nonzero : (seen : List Bool) (xs : List ℕ) → marked seen (those nonzero xs) ≡ marked seen xs
unfolding marked mark
marked_nonzero seen [] = refl
marked_nonzero seen (zero ∷ xs) = marked_nonzero seen xs
marked_nonzero seen (suc k ∷ xs) = ap (marked seen) (keeps k xs) ∙ marked_nonzero (set seen k true) xs

swap : (a b c d : Bool) → (a && b) && (c && d) ≡ (a && c) && (b && d)
swap true b true d = refl
swap true true false d = refl
swap true false false d = refl
swap false b c d = refl

pub once_apart : (f : PageId → Bool) (seen : List Bool) (ps : List PageId) → once f seen ps ≡ all f ps && unseen seen (ids_of ps)
unfolding once unseen
once_apart f seen [] = refl
once_apart f seen (p ∷ ps) =
    ap (λ (t : Bool). (f p && not (is_marked seen p.0)) && t) (once_apart f (mark seen p.0) ps)
    ∙ swap (f p) (not (is_marked seen p.0)) (all f ps) (unseen (mark seen p.0) (ids_of ps))

-- over a map with none marked, ids that are unseen are distinct

unmarked : List Bool → ℕ → Bool
unmarked seen n = not (is_marked seen n)

-- a page id but 0 with a place in a map of n
unfoldable pub in_map : ℕ → ℕ → Bool
in_map n zero = false
in_map n (suc k) = ltb k n

module _ (seen : List Bool) (k : ℕ) (h : k < length seen) where
  mark_other : (x : ℕ) → unmarked (set seen k true) x ≡ not (eqb (suc k) x) && unmarked seen x
  unfolding unmarked is_marked
  mark_other zero = ap (λ (t : Bool). not t && true) (sym (eqb-suc-zero k))
  mark_other (suc j) = go (eqb k j) refl ∙ ap (λ (t : Bool). not t && not (get_or seen j false)) (sym (eqb-suc-suc k j))
    where
      go : (t : Bool) → eqb k j ≡ t → not (get_or (set seen k true) j false) ≡ not t && not (get_or seen j false)
      go true e = ap (λ (i : ℕ). not (get_or (set seen k true) i false)) (sym (eqb-true k j e)) ∙ ap not (get_or-set_same seen k true false h)
      go false e = ap not (get_or-set_other seen k j true false (λ z. eqb-false k j e (sym z)))

  mark_others : (xs : List ℕ) → all (unmarked (set seen k true)) xs ≡ absent (suc k) xs && all (unmarked seen) xs
  mark_others [] = refl
  mark_others (x ∷ xs) = ap₂ (λ (s t : Bool). s && t) (mark_other x) (mark_others xs) ∙ swap (not (eqb (suc k) x)) (unmarked seen x) (absent (suc k) xs) (all (unmarked seen) xs)

first_joins : (m a u d : Bool) → m && ((a && u) && d) ≡ (m && u) && (a && d)
first_joins true true u d = refl
first_joins true false true d = refl
first_joins true false false d = refl
first_joins false a u d = refl

unseen_apart : (n : ℕ) (xs : List ℕ) (seen : List Bool) → length seen ≡ n → all (in_map n) xs ≡ true → unseen seen xs ≡ all (unmarked seen) xs && distinct xs
unfolding unseen unmarked is_marked mark in_map
unseen_apart n [] seen l e = refl
unseen_apart n (zero ∷ xs) seen l e = absurd (let z : ◌≡◌ {A = ℕ} 0 1 = cc in omega arith)
unseen_apart n (suc k ∷ xs) seen l e =
    let in_range = both (ltb k n) (all (in_map n) xs) e in
    let h : k < length seen = omega (arith, ltb-true k n in_range.0) in
    ap (λ (t : Bool). not (get_or seen k false) && t)
    (unseen_apart n xs (set seen k true) (length-set seen k true ∙ l) in_range.1 ∙ ap (λ (t : Bool). t && distinct xs) (mark_others seen k h xs))
    ∙ first_joins (not (get_or seen k false)) (absent (suc k) xs) (all (unmarked seen) xs) (distinct xs)

none_marked : (n k : ℕ) → get_or (replicate n false) k false ≡ false
none_marked zero k = refl
none_marked (suc n) zero = refl
none_marked (suc n) (suc k) = none_marked n k

all_unmarked : (n : ℕ) (xs : List ℕ) → all (unmarked (replicate n false)) xs ≡ true
unfolding unmarked is_marked
all_unmarked n [] = refl
all_unmarked n (zero ∷ xs) = all_unmarked n xs
all_unmarked n (suc k ∷ xs) = ap (λ (t : Bool). not t && all (unmarked (replicate n false)) xs) (none_marked n k) ∙ all_unmarked n xs

pub unseen_distinct : (slots : ℕ) (seen : List Bool) (xs : List ℕ) → Unmarked slots seen → all (in_map (length seen)) xs ≡ true → unseen seen xs ≡ distinct xs
unseen_distinct slots seen xs m e =
    unseen_apart (length seen) xs seen refl e
    ∙ ap (λ (t : Bool). t && distinct xs) (ap (λ (l : List Bool). all (unmarked l) xs) m.none ∙ all_unmarked (length seen) xs)

-- the page ids of good headers have a place in the map
module _ (slots n : ℕ) (wide : slots ≤ n) where
  pub ids_in_map : (ps : List PageId) → all (id_within slots) ps ≡ true → all (in_map n) (those nonzero (ids_of ps)) ≡ true
  unfolding in_map
  ids_in_map [] e = refl
  ids_in_map (p ∷ ps) e = let w = both (id_within slots p) (all (id_within slots) ps) e in go p.0 w.0 (ids_in_map ps w.1)
    where
      go : (i : ℕ) → leb i slots ≡ true → all (in_map n) (those nonzero (ids_of ps)) ≡ true → all (in_map n) (those nonzero (i ∷ ids_of ps)) ≡ true
      go zero h r = r
      go (suc k) h r =
          let l : k < n = omega (arith, leb-true (suc k) slots h) in
          ap (all (in_map n)) (keeps k (ids_of ps)) ∙ ap₂ (λ (s t : Bool). s && t) (lt-ltb k n l) r
