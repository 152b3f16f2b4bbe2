-- The map of page slots seen: page ids walked over it, and what that says of ids that stand twice.
-- Assumes nothing.
use Prim.Native.Nat.{ℕ, zero, suc, ◌+◌, ◌-◌, ◌≤◌, ◌<◌}
use mathlib.Core.Path.{◌≡◌, refl, sym, ap, ap₂, ◌∙◌}
use mathlib.Core.Bool.{Bool, true, false, not, ◌&&◌, and_assoc, and-true}
use mathlib.Core.List.{List, [], ◌∷◌, ◌++◌}
use native.Mathlib.Numerals.{add-one}
use native.Mathlib.Omega.{arith}
use lib.ListN.{length, take, drop, get_or, set, drop_of_length-le}
use lib.Seq.{take_all, drop-cons, take-add}
use Rattle.paper.specs.declared.PageId.{PageId}
use Rattle.paper.specs.Ids.{page_id}
use Rattle.paper.specs.Bytes.{ids_of}
use Rattle.sound.specs.Seen.{is_marked, mark, marked, once}

marked_before : (seen : List Bool) (n : ℕ) → 1 ≤ n → get_or seen (n - 1) false ≡ is_marked seen n
unfolding is_marked
marked_before seen zero lo = absurd (omega arith)
marked_before seen (suc k) lo = let e : suc k - 1 ≡ k = omega arith in rw e

mark_at : (seen : List Bool) (n : ℕ) → 1 ≤ n → set seen (n - 1) true ≡ mark seen n
unfolding mark
mark_at seen zero lo = absurd (omega arith)
mark_at seen (suc k) lo = let e : suc k - 1 ≡ k = omega arith in rw e

-- the ids behind others are walked over the map that those leave
marked_append : (seen : List Bool) (ps qs : List PageId) → marked seen (ids_of (ps ++ qs)) ≡ marked (marked seen (ids_of ps)) (ids_of qs)
unfolding marked
marked_append seen [] qs = refl
marked_append seen (p ∷ ps) qs = marked_append (mark seen p.0) ps qs

once_append : (f : PageId → Bool) (seen : List Bool) (ps qs : List PageId) → once f seen (ps ++ qs) ≡ once f seen ps && once f (marked seen (ids_of ps)) qs
unfolding once marked
once_append f seen [] qs = refl
once_append f seen (p ∷ ps) qs =
    let here = f p && not (is_marked seen p.0) in
    let next = mark seen p.0 in
    ap (λ (b : Bool). here && b) (once_append f next ps qs) ∙ sym (and_assoc here (once f next ps) (once f (marked next (ids_of ps)) qs))

-- a half is walked, then the other
module _ (seen : List Bool) (ids : List PageId) (few : length ids ≤ 16) where
  halves : take 8 ids ++ take 8 (drop 8 ids) ≡ ids
  halves = sym (take-add 8 8 ids) ∙ take_all 16 ids few

  pub marked_halves : marked (marked seen (ids_of (take 8 ids))) (ids_of (take 8 (drop 8 ids))) ≡ marked seen (ids_of ids)
  marked_halves = sym (marked_append seen (take 8 ids) (take 8 (drop 8 ids))) ∙ ap (λ (l : List PageId). marked seen (ids_of l)) halves

  pub once_halves : (f : PageId → Bool) → once f seen (take 8 ids) && once f (marked seen (ids_of (take 8 ids))) (take 8 (drop 8 ids)) ≡ once f seen ids
  once_halves f = sym (once_append f seen (take 8 ids) (take 8 (drop 8 ids))) ∙ ap (once f seen) halves

-- ids have been walked up to index k: the map is seen, and good says what was found of them
pub record Walked (f : PageId → Bool) (ids : List PageId) (seen₀ : List Bool) (k : ℕ) (seen : List Bool) (good : Bool) : Type 0 where
  pub found : good && once f seen (drop k ids) ≡ once f seen₀ ids
  pub map : marked seen (ids_of (drop k ids)) ≡ marked seen₀ (ids_of ids)

pub walk_starts : (f : PageId → Bool) (ids : List PageId) (seen : List Bool) → Walked f ids seen 0 seen true
walk_starts f ids seen = record { found = refl; map = refl }

module _ {f : PageId → Bool} {ids : List PageId} {seen₀ : List Bool} {k : ℕ} {seen : List Bool} {good : Bool} (w : Walked f ids seen₀ k seen good) where
  pub walk_ends : length ids ≤ k → (good ≡ once f seen₀ ids) × (seen ≡ marked seen₀ (ids_of ids))
  unfolding once marked
  walk_ends h =
      let none : drop k ids ≡ [] = drop_of_length-le ids h in
      (sym (and-true good) ∙ ap (λ (l : List PageId). good && once f seen l) (sym none) ∙ w.found, ap (λ (l : List PageId). marked seen (ids_of l)) (sym none) ∙ w.map)

  module _ (h : k < length ids) where
    abbrev here : PageId
    here = get_or ids k (page_id 0)

    rest : drop k ids ≡ here ∷ drop (k + 1) ids
    rest = rw (add-one, drop-cons ids k (page_id 0))

    turn : (seen' : List Bool) (good' : Bool) → good' ≡ good && (f here && not (is_marked seen here.0)) → seen' ≡ mark seen here.0 → Walked f ids seen₀ (k + 1) seen' good'
    unfolding once marked
    turn seen' good' g m = record {
      found = ap₂ (λ (b : Bool) (l : List Bool). b && once f l (drop (k + 1) ids)) g m
          ∙ and_assoc good (f here && not (is_marked seen here.0)) (once f (mark seen here.0) (drop (k + 1) ids)) ∙ ap (λ (l : List PageId). good && once f seen l) (sym rest) ∙ w.found;
      map = ap (λ (l : List Bool). marked l (ids_of (drop (k + 1) ids))) m ∙ ap (λ (l : List PageId). marked seen (ids_of l)) (sym rest) ∙ w.map;
    }

    -- page id 0 is passed over
    pub walk_null : here.0 ≡ 0 → f here ≡ true → Walked f ids seen₀ (k + 1) seen good
    unfolding is_marked mark
    walk_null z e = turn seen good (rw (e, z) (sym (and-true good))) (rw z)

    -- any other is tested and marked
    pub walk_id : (n : ℕ) → n ≡ here.0 → 1 ≤ n → (passed : Bool) → passed ≡ f (page_id n) → Walked f ids seen₀ (k + 1) (set seen (n - 1) true) ((good && passed) && not (get_or seen (n - 1) false))
    walk_id n at lo passed p =
        let again = get_or seen (n - 1) false in
        turn (set seen (n - 1) true) ((good && passed) && not again)
        (and_assoc good passed (not again) ∙ ap₂ (λ (s t : Bool). good && (s && not t)) (p ∙ ap (λ (m : ℕ). f (page_id m)) at) (marked_before seen n lo ∙ ap (is_marked seen) at))
        (mark_at seen n lo ∙ ap (mark seen) at)
