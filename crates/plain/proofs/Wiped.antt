-- Pages that no live header names are destroyed one after the other: the tables show the same, whatever becomes of each step.
-- Assumes nothing.
use Prim.Native.Nat.{ℕ, zero, suc, ◌≤◌}
use mathlib.Core.Path.{refl}
use mathlib.Core.Logic.{◌≢◌}
use mathlib.Core.List.{List, [], ◌∷◌}
use native.Mathlib.Omega.{arith}
use lib.ListN.{get_or}
use Rattle.paper.specs.declared.Bank.{Bank}
use Rattle.paper.specs.declared.PageId.{PageId}
use Rattle.paper.specs.Ids.{page_id, null_page_id}
use Rattle.paper.specs.Tables.{Tables, no_slot}
use Rattle.paper.specs.Stores.{destroy_page}
use Rattle.paper.specs.Steps.{cleanup, each_page, on_pages, in_pages}
use Rattle.plain.proofs.Sound.{zeros_slot}
use Rattle.plain.proofs.Pages.{Unnamed, unnamed_fits, slot_same}
use Rattle.plain.proofs.Logic.{Does, into, each}
use Rattle.plain.proofs.Phases.{Job, Phase, Stands, Anything, Ended, Keeps, weaker, cleans}

-- no live header names the slot
pub record Loose (b : Bank) (k : ℕ) (t : Tables) : Type 0 where
  pub high : k ≤ b.slots
  pub unnamed : Unnamed t k

abbrev pub AllLoose : Bank → List PageId → Tables → Type 0
AllLoose b ps t = (m : ℕ) → (get_or ps m null_page_id).0 ≢ 0 → Loose b (get_or ps m null_page_id).0 t

pub one_loose : (b : Bank) (q : PageId) (t : Tables) → (q.0 ≢ 0 → Loose b q.0 t) → AllLoose b (q ∷ []) t
one_loose b q t f zero ne = f ne
one_loose b q t f (suc m) ne = absurd (ne refl)

destroys : (j : Job) (k : ℕ) (ps : List PageId) → Keeps j (on_pages (destroy_page j.bank (page_id (suc k)))) (AllLoose j.bank (page_id (suc k) ∷ ps)) (λ n. AllLoose j.bank ps)
unfolding destroy_page in_pages
destroys j k ps t f c x =
    let b = j.bank in
    let l : Loose b (suc k) t = x 0 (omega arith) in
    let fits = unnamed_fits b t (suc k) (no_slot b) l.unnamed in (
      slot_same b t (suc k) (no_slot b) f (omega arith) l.high (zeros_slot b) (unnamed_fits b t (suc k) (no_slot b) l.unnamed),
      λ m ne. record { high = (x (suc m) ne).high; unnamed = (x (suc m) ne).unnamed },
    )

pub wipes : {j : Job} {p : Phase} (ps : List PageId)
    → Does (Ended j) (Stands j p (AllLoose j.bank ps)) (each_page (λ q. cleanup (on_pages (destroy_page j.bank q))) ps) (λ n. Stands j p Anything)
wipes {j} {p} ps =
    into (λ n. weaker (λ t _ _. tt))
    (each (λ ps. Stands j p (AllLoose j.bank ps)) (λ q. cleanup (on_pages (destroy_page j.bank q)))
    (λ k ps. cleans (on_pages (destroy_page j.bank (page_id (suc k)))) (destroys j k ps) (λ t x m. x (suc m)))
    (λ ps. weaker (λ t _ x m. x (suc m))) ps)
