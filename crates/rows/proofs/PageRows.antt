-- A row of steps over pages, page by page: what one page makes of it, and a loop over the pages.
-- Assumes nothing.
use Prim.Native.Nat.{ℕ, zero, suc, ◌+◌, ◌≤◌, ◌<◌}
use native.Mathlib.Numerals.{add-one}
use native.Mathlib.Omega.{arith}
use mathlib.Core.Path.{◌≡◌, refl, sym, ap, ◌∙◌}
use mathlib.Core.Bool.{Bool, true, false, cond}
use mathlib.Core.List.{List, [], ◌∷◌}
use borrow.Author.Tests.{leb-true}
use lib.Dec.{leb}
use lib.ListN.{length, get_or, drop, drop_of_length-le}
use lib.Seq.{drop-cons}
use Rattle.paper.specs.declared.PageId.{PageId}
use Rattle.std.specs.Prelude.{Result, Ok, Err}
use Rattle.paper.specs.declared.Refusal.{Refusal}
use Rattle.paper.specs.Ids.{page_id}
use Rattle.paper.specs.Tables.{HS, PS}
use Rattle.paper.specs.Stores.{Try}
use Rattle.paper.specs.Steps.{done, attempt, on_pages, State, Run, on, end, Steps, follow, ◌>>=◌, ◌>>◌, give, settle, step, pass_over, cleanup, each_page}
use Rattle.rows.specs.Standing.{standing, named}
use Rattle.paper.proofs.Tests.{all_at}
use Rattle.rows.proofs.Steps.{page_step, page_cleanup, leads, ends}

-- a row over one page, and over one page more
module _ (f : PageId → Steps ℕ) (os : List ℕ) (s : State) where
  no_page : (id : PageId) → id.0 ≡ 0 → on 0 s ≡ each_page f (id ∷ []) os s
  unfolding each_page give
  no_page id e = rw (e, each_page)

  a_page : (n : ℕ) → 1 ≤ n → follow (f (page_id n) os s) os (λ _. give 0) ≡ each_page f (page_id n ∷ []) os s
  unfolding each_page ◌>>◌ ◌>>=◌
  a_page zero h = absurd (omega arith)
  a_page (suc n) h = refl

  follow_again : (r : Run ℕ) (g : Steps ℕ) → follow r os (λ _. g) ≡ follow (follow {B = ℕ} r os (λ _. give 0)) os (λ _. g)
  unfolding follow give
  follow_again (on a z) g = refl
  follow_again (end n z) g = refl

  page_more : (n : ℕ) (ps : List PageId) → each_page f (page_id n ∷ ps) os s ≡ follow (each_page f (page_id n ∷ []) os s) os (λ _. each_page f ps)
  unfolding each_page ◌>>◌ ◌>>=◌ follow give
  page_more zero ps = refl
  page_more (suc n) ps = follow_again (f (page_id (suc n)) os s) (each_page f ps)

-- of ids that all name slots, or none, each does
pub named_at : (slots m : ℕ) (ids : List PageId) (k : ℕ) (d : PageId) → named slots ids ≡ true → length ids ≡ m → k < m → (get_or ids k d).0 ≤ slots
named_at slots m ids k d e l h = leb-true (get_or ids k d).0 slots (all_at (λ (p : PageId). leb p.0 slots) d k ids e (omega arith))

-- a page's step, passed over or not, by what it made of the slots
passed : (pass : Bool) (os : List ℕ) (k : ℕ) (past : Bool) (hs : HS) (s : Result ℕ Refusal) (f : PS → Try PS) (ps ps' : PS) → done s ps' ≡ attempt (get_or os k 0) f ps
    → cond pass (pass_over s (standing (k + 1) past hs ps')) (settle s (standing (k + 1) past hs ps')) ≡ cond pass (cleanup (on_pages f)) (step (on_pages f)) os (standing k past hs ps)
passed true os k past hs s f ps ps' e = page_cleanup os k past s f hs ps ps' e
passed false os k past hs s f ps ps' e = page_step os k past s f hs ps ps' e

-- the step that a row makes on each page: what is refused is passed over, or ends the request
module _ (pass : Bool) (f : PageId → PS → Try PS) where
  abbrev pub on_page : PageId → Steps ℕ
  on_page q = cond pass (cleanup (on_pages (f q))) (step (on_pages (f q)))

  -- a row over ids from step `from` on and the slots ps₀, of at most m steps, gives r at step `taken` and leaves the slots ps
  abbrev pub Rowed : List ℕ → ℕ → List PageId → PS → ℕ → Result ℕ Refusal → ℕ → PS → Type 0
  Rowed os from ids ps₀ m r taken ps =
      (taken ≤ from + m) × ((past : Bool) (hs : HS) → settle r (standing taken past hs ps) ≡ each_page on_page ids os (standing from past hs ps₀))

  module _ (os : List ℕ) (from : ℕ) (ps₀ : PS) where
    pub no_page_rowed : (id : PageId) → id.0 ≡ 0 → Rowed os from (id ∷ []) ps₀ 1 (Ok 0) from ps₀
    unfolding settle
    no_page_rowed id e = (omega arith, λ past hs. no_page on_page os (standing from past hs ps₀) id e)

    pub page_rowed : (id : PageId) (s r : Result ℕ Refusal) (ps : PS) → 1 ≤ id.0 → done s ps ≡ attempt (get_or os from 0) (f id) ps₀
        → ((os : List ℕ) (st : State) → settle r st ≡ follow (cond pass (pass_over s st) (settle s st)) os (λ n. give 0)) → Rowed os from (id ∷ []) ps₀ 1 r (from + 1) ps
    page_rowed id s r ps lo e h = (
      omega arith,
      λ past hs. h os (standing (from + 1) past hs ps) ∙ ap (λ (x : Run ℕ). follow x os (λ n. give 0)) (passed pass os from past hs s (f id) ps₀ ps e) ∙ a_page on_page os (standing from past hs ps₀) id.0 lo,
    )

  -- a loop over ids from step `from` on and the slots ps₀ has come to index k: what is left, from where the request then stands, gives what the whole row gives
  pub record Going (os : List ℕ) (from : ℕ) (ids : List PageId) (ps₀ : PS) (k taken : ℕ) (ps : PS) : Type 0 where
    pub few : taken ≤ from + k
    pub rest : (past : Bool) (hs : HS) → each_page on_page ids os (standing from past hs ps₀) ≡ each_page on_page (drop k ids) os (standing taken past hs ps)

  module _ (os : List ℕ) (from : ℕ) (ids : List PageId) (ps₀ : PS) where
    pub row_starts : Going os from ids ps₀ 0 from ps₀
    row_starts = record { few = omega arith; rest = λ past hs. refl }

    module _ (m : ℕ) (l : length ids ≡ m) (k taken : ℕ) (ps : PS) (g : Going os from ids ps₀ k taken ps) where
      pub row_ends : k ≤ m → m ≤ k → Rowed os from ids ps₀ m (Ok 0) taken ps
      unfolding settle each_page give
      row_ends hi lo =
          let past_all : length ids ≤ k = omega arith in
          (omega (arith, g.few), λ past hs. sym (g.rest past hs ∙ rw (drop_of_length-le ids past_all)))

      module _ (d : PageId) (r : Result ℕ Refusal) (taken' : ℕ) (ps' : PS) (h : k < m) (o : Rowed os taken (get_or ids k d ∷ []) ps 1 r taken' ps') where
        turn : (past : Bool) (hs : HS) → each_page on_page ids os (standing from past hs ps₀) ≡ follow (settle r (standing taken' past hs ps')) os (λ _. each_page on_page (drop (k + 1) ids))
        turn past hs =
            let st = standing taken past hs ps in
            let next : drop k ids ≡ get_or ids k d ∷ drop (k + 1) ids = rw add-one (drop-cons ids k d (omega arith)) in
            g.rest past hs
            ∙ ap (λ (x : List PageId). each_page on_page x os st) next
            ∙ page_more on_page os st (get_or ids k d).0 (drop (k + 1) ids)
            ∙ ap (λ (x : Run ℕ). follow x os (λ _. each_page on_page (drop (k + 1) ids))) (sym (o.1 past hs))

        pub row_goes_on : (n : ℕ) → r ≡ Ok n → Going os from ids ps₀ (k + 1) taken' ps'
        row_goes_on n e = record {
          few = omega (arith, g.few, o.0);
          rest = λ past hs. turn past hs ∙ leads r n (standing taken' past hs ps') os (λ _. each_page on_page (drop (k + 1) ids)) e;
        }

        pub row_stops : (a : Refusal) → r ≡ Err a → Rowed os from ids ps₀ m (Err a) taken' ps'
        unfolding settle
        row_stops a e = (
          omega (arith, g.few, o.0),
          λ past hs. sym (turn past hs ∙ ends r a (standing taken' past hs ps') os (λ _. each_page on_page (drop (k + 1) ids)) e),
        )
