-- No number stands twice: said of the rows of a list's elements, each row that a test passes, by index.
-- Assumes nothing.
use Prim.Native.Nat.{ℕ, zero, suc}
use mathlib.Core.Path.{◌≡◌, refl, sym, ap, subst, ◌∙◌}
use mathlib.Core.Bool.{Bool, true, false, not, cond, true≢false}
use mathlib.Core.List.{List, [], ◌∷◌, ◌++◌, map}
use native.Mathlib.Omega.{arith}
use borrow.Author.Tests.{eq-eqb, ne_eqb}
use lib.ListN.{get_or}
use lib.Dec.{eqb}
use Rattle.paper.specs.Lists.{those, absent, distinct}
use Rattle.paper.proofs.Tests.{both}
use Rattle.plain.proofs.Lists.{both_true}

-- v stands in the list
pub data In (v : ℕ) : List ℕ → Type 0 where
  here : {y : ℕ} {ys : List ℕ} → v ≡ y → In v (y ∷ ys)
  there : {y : ℕ} {ys : List ℕ} → In v ys → In v (y ∷ ys)

pub only : {v y : ℕ} → In v (y ∷ []) → v ≡ y
only (here e) = e
only {v = v} {y = y} (there i) = elim i [ ]

absent_in : (v : ℕ) {ys : List ℕ} → absent v ys ≡ true → In v ys → ⊥
absent_in v e (here {y = y} {ys = ys} p) =
    let z : not (eqb v y) ≡ true = (both _ (absent v ys) e).0 in
    true≢false (sym z ∙ rw (eq-eqb v y p))
absent_in v e (there {y = y} {ys = ys} i) = absent_in v (both (not (eqb v y)) (absent v ys) e).1 i

in_absent : (v : ℕ) (ys : List ℕ) → (In v ys → ⊥) → absent v ys ≡ true
in_absent v [] f = refl
in_absent v (y ∷ ys) f = rw (ne_eqb v y (λ p. f (here p)), in_absent v ys (λ i. f (there i)))

in_left : {v : ℕ} {xs : List ℕ} (ys : List ℕ) → In v xs → In v (xs ++ ys)
in_left ys (here e) = here e
in_left ys (there i) = there (in_left ys i)

in_right : {v : ℕ} (xs : List ℕ) {ys : List ℕ} → In v ys → In v (xs ++ ys)
in_right [] i = i
in_right (x ∷ xs) i = there (in_right xs i)

data Side (v : ℕ) (xs ys : List ℕ) : Type 0 where
  left : In v xs → Side v xs ys
  right : In v ys → Side v xs ys

in-side : (v : ℕ) (xs ys : List ℕ) → In v (xs ++ ys) → Side v xs ys
in-side v [] ys i = right i
in-side v (x ∷ xs) ys (here e) = left (here e)
in-side v (x ∷ xs) ys (there i) = go (in-side v xs ys i)
  where
    go : Side v xs ys → Side v (x ∷ xs) ys
    go (left j) = left (there j)
    go (right j) = right j

-- two lists one after the other
pub record Apart (xs ys : List ℕ) : Type 0 where
  pub front : distinct xs ≡ true
  pub back : distinct ys ≡ true
  pub none : (v : ℕ) → In v xs → In v ys → ⊥

distinct_apart : (xs ys : List ℕ) → distinct (xs ++ ys) ≡ true → Apart xs ys
distinct_apart [] ys e = record { front = refl; back = e; none = λ v i. nowhere i }
  where
    nowhere : {v : ℕ} → In v [] → In v ys → ⊥
    nowhere i = elim i [ ]
distinct_apart (x ∷ xs) ys e = go (both (absent x (xs ++ ys)) (distinct (xs ++ ys)) e) (distinct_apart xs ys (both (absent x (xs ++ ys)) (distinct (xs ++ ys)) e).1)
  where
    go : (absent x (xs ++ ys) ≡ true) × (distinct (xs ++ ys) ≡ true) → Apart xs ys → Apart (x ∷ xs) ys
    go p r = record {
      front = both_true (absent x xs) (distinct xs) (in_absent x xs (λ i. absent_in x p.0 (in_left ys i))) r.front;
      back = r.back;
      none = apart;
    }
      where
        apart : (v : ℕ) → In v (x ∷ xs) → In v ys → ⊥
        apart v (here q) j = absent_in x p.0 (in_right xs (rw q at j))
        apart v (there i) j = r.none v i j

apart_distinct : (xs ys : List ℕ) → Apart xs ys → distinct (xs ++ ys) ≡ true
apart_distinct [] ys r = r.back
apart_distinct (x ∷ xs) ys r =
    let f = both (absent x xs) (distinct xs) r.front in
    both_true (absent x (xs ++ ys)) (distinct (xs ++ ys)) (in_absent x (xs ++ ys) (λ i. side (in-side x xs ys i)))
    (apart_distinct xs ys (record { front = f.1; back = r.back; none = λ v i. r.none v (there i) }))
  where
    side : Side x xs ys → ⊥
    side (left i) = absent_in x (both (absent x xs) (distinct xs) r.front).0 i
    side (right i) = r.none x (here refl) i

-- the rows of the elements that pass, one after the other
module _ {A : Type 0} (f : A → Bool) (row : A → List ℕ) where
  abbrev pub flat : List A → List ℕ
  flat [] = []
  flat (x ∷ xs) = cond (f x) (row x ++ flat xs) (flat xs)

  -- each row has nothing twice, and no two rows share a number; d is what stands past the end, and does not pass
  pub record Once (d : A) (xs : List A) : Type 0 where
    pub own : (i : ℕ) → f (get_or xs i d) ≡ true → distinct (row (get_or xs i d)) ≡ true
    pub other : (v i j : ℕ) → f (get_or xs i d) ≡ true → f (get_or xs j d) ≡ true → In v (row (get_or xs i d)) → In v (row (get_or xs j d)) → i ≡ j

  module _ (d : A) (z : f d ≡ false) where
    pub in_flat : (v : ℕ) (xs : List A) (i : ℕ) → f (get_or xs i d) ≡ true → In v (row (get_or xs i d)) → In v (flat xs)
    in_flat v [] i e p = absurd (true≢false (sym e ∙ z))
    in_flat v (x ∷ xs) zero e p = rw e (in_left (flat xs) p)
    in_flat v (x ∷ xs) (suc i) e p = go (f x) (in_flat v xs i e p)
      where
        go : (b : Bool) → In v (flat xs) → In v (cond b (row x ++ flat xs) (flat xs))
        go true r = in_right (row x) r
        go false r = r

    abbrev Row : ℕ → List A → Type 0
    Row v xs = (i : ℕ) × (f (get_or xs i d) ≡ true) × In v (row (get_or xs i d))

    pub flat_in : (v : ℕ) (xs : List A) → In v (flat xs) → (i : ℕ) × (f (get_or xs i d) ≡ true) × In v (row (get_or xs i d))
    flat_in v [] p = elim p [ ]
    flat_in v (x ∷ xs) p = go (f x) refl p (flat_in v xs)
      where
        later : Row v xs → Row v (x ∷ xs)
        later r = (suc r.0, r.1, r.2)

        side : f x ≡ true → (In v (flat xs) → Row v xs) → Side v (row x) (flat xs) → Row v (x ∷ xs)
        side e rec (left j) = (0, e, j)
        side e rec (right j) = later (rec j)

        go : (u : Bool) → f x ≡ u → In v (cond u (row x ++ flat xs) (flat xs)) → (In v (flat xs) → Row v xs) → Row v (x ∷ xs)
        go true e q rec = side e rec (in-side v (row x) (flat xs) q)
        go false e q rec = later (rec q)

    -- the first row and the others, where it passes; the others in any case
    first_apart : (x : A) (xs : List A) → f x ≡ true → distinct (flat (x ∷ xs)) ≡ true → Apart (row x) (flat xs)
    first_apart x xs p e = distinct_apart (row x) (flat xs) (subst (λ (u : Bool). distinct (cond u (row x ++ flat xs) (flat xs)) ≡ true) p e)

    rest_distinct : (x : A) (xs : List A) → distinct (flat (x ∷ xs)) ≡ true → distinct (flat xs) ≡ true
    rest_distinct x xs = go (f x)
      where
        go : (u : Bool) → distinct (cond u (row x ++ flat xs) (flat xs)) ≡ true → distinct (flat xs) ≡ true
        go true e = (distinct_apart (row x) (flat xs) e).back
        go false e = e

    own_row : (xs : List A) → distinct (flat xs) ≡ true → (i : ℕ) → f (get_or xs i d) ≡ true → distinct (row (get_or xs i d)) ≡ true
    own_row [] e i p = absurd (true≢false (sym p ∙ z))
    own_row (x ∷ xs) e zero p = (first_apart x xs p e).front
    own_row (x ∷ xs) e (suc i) p = own_row xs (rest_distinct x xs e) i p

    other_row : (v : ℕ) (xs : List A) → distinct (flat xs) ≡ true → (i j : ℕ) → f (get_or xs i d) ≡ true → f (get_or xs j d) ≡ true
        → In v (row (get_or xs i d)) → In v (row (get_or xs j d)) → i ≡ j
    other_row v [] e i j p q k l = absurd (true≢false (sym p ∙ z))
    other_row v (x ∷ xs) e zero zero p q k l = refl
    other_row v (x ∷ xs) e zero (suc j) p q k l = absurd ((first_apart x xs p e).none v k (in_flat v xs j q l))
    other_row v (x ∷ xs) e (suc i) zero p q k l = absurd ((first_apart x xs q e).none v l (in_flat v xs i p k))
    other_row v (x ∷ xs) e (suc i) (suc j) p q k l = ap suc (other_row v xs (rest_distinct x xs e) i j p q k l)

    pub flat_once : (xs : List A) → distinct (flat xs) ≡ true → Once d xs
    flat_once xs e = record { own = own_row xs e; other = λ v. other_row v xs e }

    pub once_flat : (xs : List A) → Once d xs → distinct (flat xs) ≡ true
    once_flat [] o = refl
    once_flat (x ∷ xs) o = go (f x) refl (once_flat xs (record { own = λ i. o.own (suc i); other = λ v i j p q k l. omega (arith, o.other v (suc i) (suc j) p q k l) }))
      where
        go : (b : Bool) → f x ≡ b → distinct (flat xs) ≡ true → distinct (cond b (row x ++ flat xs) (flat xs)) ≡ true
        go true p rec = apart_distinct (row x) (flat xs) (record { front = o.own 0 p; back = rec; none = none })
          where
            none : (v : ℕ) → In v (row x) → In v (flat xs) → ⊥
            none v k l =
                let r = flat_in v xs l in
                omega (arith, o.other v 0 (suc r.0) p r.1 k r.2)
        go false p rec = rec

-- rows of one number each
module _ {A : Type 0} (g : A → ℕ) where
  abbrev pub single : A → List ℕ
  single x = g x ∷ []

  pub map_those : (f : A → Bool) (xs : List A) → map g (those f xs) ≡ flat f single xs
  map_those f [] = refl
  map_those f (x ∷ xs) = go (f x) (map_those f xs)
    where
      go : (b : Bool) → map g (those f xs) ≡ flat f single xs → map g (cond b (x ∷ those f xs) (those f xs)) ≡ cond b (g x ∷ flat f single xs) (flat f single xs)
      go true e = λ i. g x ∷ e i
      go false e = e

  pub those_map : (f : ℕ → Bool) (xs : List A) → those f (map g xs) ≡ flat (λ x. f (g x)) single xs
  those_map f [] = refl
  those_map f (x ∷ xs) = go (f (g x)) (those_map f xs)
    where
      go : (b : Bool) → those f (map g xs) ≡ flat (λ x. f (g x)) single xs
          → cond b (g x ∷ those f (map g xs)) (those f (map g xs)) ≡ cond b (g x ∷ flat (λ x. f (g x)) single xs) (flat (λ x. f (g x)) single xs)
      go true e = λ i. g x ∷ e i
      go false e = e
