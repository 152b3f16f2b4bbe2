-- A step of one store is a step of the request: what a store's function ensures, turned into what the request's row gives.
-- Assumes nothing.
use Prim.Native.Nat.{ℕ, zero, suc, ◌+◌}
use mathlib.Core.Path.{◌≡◌, refl, ap, ◌∙◌, sym}
use mathlib.Core.Bool.{Bool}
use mathlib.Core.List.{List, [], ◌∷◌}
use native.Mathlib.Numerals.{add-one}
use lib.ListN.{get_or}
use Rattle.std.specs.Prelude.{Result, Ok, Err}
use Rattle.paper.specs.declared.Refusal.{Refusal}
use Rattle.paper.specs.declared.Refusal.TheVariants.{ServiceError, Cut}
use Rattle.paper.specs.Tables.{HS, PS, Tables}
use Rattle.paper.specs.Stores.{Try, gone, no}
use Rattle.paper.specs.Steps.{Done, done, allowed, tried, attempt, in_headers, in_pages, on_headers, on_pages, State, end, Steps, follow, attempted, settle, step, pass_over, cleanup}
use Rattle.rows.specs.Standing.{standing}

-- where the tables are `whole` of one store, and F makes of them what f makes of that store, F's step is f's
module _ {S : Type 0} (whole : S → Tables) (F : Tables → Try Tables) (f : S → Try S) (s : S)
    (same : tried (F (whole s)) (whole s) ≡ done (tried (f s) s).step (whole (tried (f s) s).store)) where
  attempt_whole : (o : ℕ) → done (attempt o f s).step (whole (attempt o f s).store) ≡ attempt o F (whole s)
  unfolding attempt allowed
  attempt_whole zero = sym same
  attempt_whole (suc zero) = refl
  attempt_whole (suc (suc o)) = refl

  module _ (os : List ℕ) (k : ℕ) (past : Bool) (r : Result ℕ Refusal) (s' : S) (e : done r s' ≡ attempt (get_or os k 0) f s) where
    abbrev at : ℕ → S → State
    at n z = record { taken = n; past = past; tables = whole z }

    done_whole : done r (whole s') ≡ attempt (get_or os k 0) F (whole s)
    done_whole = ap (λ (d : Done S). done d.step (whole d.store)) e ∙ attempt_whole (get_or os k 0)

    step_whole : settle r (at (k + 1) s') ≡ step F os (at k s)
    unfolding step attempted
    step_whole = rw (← add-one k) (ap (λ (d : Done Tables). settle d.step (record { taken = k + 1; past = past; tables = d.store })) done_whole)

    cleanup_whole : pass_over r (at (k + 1) s') ≡ cleanup F os (at k s)
    unfolding cleanup attempted
    cleanup_whole = rw (← add-one k) (ap (λ (d : Done Tables). pass_over d.step (record { taken = k + 1; past = past; tables = d.store })) done_whole)

abbrev tables : HS → PS → Tables
tables hs ps = record { hs = hs; ps = ps }

tried_headers : (t : Try HS) (hs : HS) (ps : PS) → tried (in_headers t (tables hs ps)) (tables hs ps) ≡ done (tried t hs).step (tables (tried t hs).store ps)
unfolding tried in_headers
tried_headers (gone n s) hs ps = refl
tried_headers (no a) hs ps = refl

tried_pages : (t : Try PS) (hs : HS) (ps : PS) → tried (in_pages t (tables hs ps)) (tables hs ps) ≡ done (tried t ps).step (tables hs (tried t ps).store)
unfolding tried in_pages
tried_pages (gone n s) hs ps = refl
tried_pages (no a) hs ps = refl

module _ (os : List ℕ) (k : ℕ) (past : Bool) (r : Result ℕ Refusal) where
  pub header_step_lem : (f : HS → Try HS) (hs hs' : HS) (ps : PS) → done r hs' ≡ attempt (get_or os k 0) f hs → settle r (standing (k + 1) past hs' ps) ≡ step (on_headers f) os (standing k past hs ps)
  header_step_lem f hs hs' ps e = step_whole (λ (z : HS). tables z ps) (on_headers f) f hs (tried_headers (f hs) hs ps) os k past r hs' e

  module _ (f : PS → Try PS) (hs : HS) (ps ps' : PS) (e : done r ps' ≡ attempt (get_or os k 0) f ps) where
    pub page_step : settle r (standing (k + 1) past hs ps') ≡ step (on_pages f) os (standing k past hs ps)
    page_step = step_whole (tables hs) (on_pages f) f ps (tried_pages (f ps) hs ps) os k past r ps' e

    pub page_cleanup : pass_over r (standing (k + 1) past hs ps') ≡ cleanup (on_pages f) os (standing k past hs ps)
    page_cleanup = cleanup_whole (tables hs) (on_pages f) f ps (tried_pages (f ps) hs ps) os k past r ps' e

-- a step that went through leads on with its number
pub leads : {A : Type 0} (r : Result ℕ Refusal) (n : ℕ) (s : State) (os : List ℕ) (g : ℕ → Steps A) → r ≡ Ok n → follow (settle r s) os g ≡ g n os s
unfolding follow settle
leads r n s os g e = rw e

-- a refusal ends the row
pub ends : {A : Type 0} (r : Result ℕ Refusal) (a : Refusal) (s : State) (os : List ℕ) (g : ℕ → Steps A) → r ≡ Err a → follow (settle r s) os g ≡ end a s
unfolding follow settle
ends r a s os g e = rw e

-- a step that went through did what its store's conditions make of it
module _ {S : Type 0} (n : ℕ) (s s' : S) where
  tried_went : (t : Try S) → done (Ok n) s' ≡ tried t s → t ≡ gone n s'
  unfolding tried
  tried_went (gone m z) e =
      let number : ◌≡◌ {A = Result ℕ Refusal} (Ok n) (Ok m) = ap (λ (d : Done S). d.step) e in
      let store : s' ≡ z = ap (λ (d : Done S). d.store) e in
      cc
  tried_went (no a) e = let other : ◌≡◌ {A = Result ℕ Refusal} (Ok n) (Err a) = ap (λ (d : Done S). d.step) e in cc

  pub went : (o : ℕ) (f : S → Try S) → done (Ok n) s' ≡ attempt o f s → f s ≡ gone n s'
  unfolding attempt allowed
  went zero f e = tried_went (f s) e
  went (suc zero) f e = let other : ◌≡◌ {A = Result ℕ Refusal} (Ok n) (Err ServiceError) = ap (λ (d : Done S). d.step) e in cc
  went (suc (suc o)) f e = let other : ◌≡◌ {A = Result ℕ Refusal} (Ok n) (Err Cut) = ap (λ (d : Done S). d.step) e in cc
