-- Tests that pass together, a test that passes at every element of a list, and a fold that tells whether it does.
-- Assumes nothing.
use Prim.Native.Nat.{ℕ, zero, suc, ◌<◌}
use mathlib.Core.Path.{◌≡◌, refl, sym, ap, ◌∙◌}
use mathlib.Core.Bool.{Bool, true, false, ◌&&◌, and_assoc, and-true}
use mathlib.Core.List.{List, [], ◌∷◌, ◌++◌}
use native.Mathlib.Omega.{arith}
use denote.Param.Members.{Mut}
use denote.Ref.{Bor}
use lib.ListN.{length, get_or}
use Rattle.std.specs.Fn.{Called}
use Rattle.std.specs.Iterator.{Drains}
use Rattle.std.specs.List.{FoldsTo}
use Rattle.std.specs.declared.slice.Iter.{Iter}
use Rattle.std.proofs.lemmas.Fn.{fronts, slice_gives, fold_over}
use Rattle.paper.specs.Lists.{all}

pub left : (a b : Bool) → a && b ≡ true → a ≡ true
left true b e = refl
left false b e = e

pub right : (a b : Bool) → a && b ≡ true → b ≡ true
right true b e = e
right false b e = let z : ◌≡◌ {A = ℕ} 0 1 = cc in absurd (omega arith)

pub both : (a b : Bool) → a && b ≡ true → (a ≡ true) × (b ≡ true)
both a b e = (left a b e, right a b e)

module _ {A : Type 0} where
  pub all_more : (f g : A → Bool) → ((x : A) → f x ≡ true → g x ≡ true) → (xs : List A) → all f xs ≡ true → all g xs ≡ true
  all_more f g h [] e = refl
  all_more f g h (x ∷ xs) e = rw (h x (left (f x) (all f xs) e)) (all_more f g h xs (right (f x) (all f xs) e))

  pub all_at : (f : A → Bool) (d : A) (k : ℕ) (xs : List A) → all f xs ≡ true → k < length xs → f (get_or xs k d) ≡ true
  all_at f d k [] e l = absurd (omega arith)
  all_at f d zero (x ∷ xs) e l = left (f x) (all f xs) e
  all_at f d (suc k) (x ∷ xs) e l = all_at f d k xs (right (f x) (all f xs) e) (omega arith)

  all_push : (f : A → Bool) (xs : List A) (x : A) → all f (xs ++ (x ∷ [])) ≡ all f xs && f x
  all_push f [] x = and-true (f x)
  all_push f (y ∷ ys) x = ap (λ (b : Bool). f y && b) (all_push f ys x) ∙ sym (and_assoc (f y) (all f ys) (f x))

  -- A fold over a slice tells whether f passes at every element: q reads that of what is gathered, and each turn joins one more test by and.
  pub fold_all : {B F : Type 0} {g : Mut F (B × (Bor A × Unit {0})) B} {h : F} {s : Iter A} {a r : B} {xs : List A}
      → (ys : List (Bor A)) × (h' : F) × Drains fronts s ys × FoldsTo {P = F × B} (λ p x q. Called g p.0 (p.1, (x, tt)) q.1 q.0) (h, a) ys (h', r)
      → s.rest.now ≡ xs → (q : B → Bool) (f : A → Bool) → q a ≡ true
      → ((b : B) (x : Bor A) (c : B) (h' : F) → Called g h (b, (x, tt)) c h' → (q c ≡ q b && f x.now) × (h' ≡ h)) → q r ≡ all f xs
  fold_all {g = g} {h = h} {s = s} {a = a} {r = r} ran rest q f start turn =
      fold_over fronts (λ y. y.now) g (λ ys b. q b ≡ all f ys) h
      (λ ys b x c h' i k. let t = turn b x c h' k in (t.0 ∙ ap (λ (t : Bool). t && f x.now) i ∙ sym (all_push f ys x.now), t.1))
      s s.rest.now a r (slice_gives s) start ran
      ∙ ap (all f) rest
