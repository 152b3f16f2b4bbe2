-- A page made in a free slot: the tables show the same, nobody names the slot, and a header may take its page id in.
-- Assumes nothing.
use Prim.Native.Nat.{ℕ, ◌≤◌}
use mathlib.Core.Path.{◌≡◌, refl, ◌∙◌}
use mathlib.Core.Logic.{◌≢◌}
use mathlib.Core.Bool.{cond}
use mathlib.Core.List.{List}
use Rattle.std.specs.Prelude.{Some}
use native.Mathlib.Omega.{arith}
use borrow.Author.Tests.{eq-eqb, ne_eqb}
use lib.ListN.{length-set}
use lib.Dec.{eqb}
use Rattle.paper.specs.declared.Bank.{Bank}
use Rattle.paper.specs.declared.PageId.{PageId}
use Rattle.paper.specs.declared.PageNum.{PageNum}
use Rattle.paper.specs.declared.Header.{Header}
use Rattle.paper.specs.Ids.{page_id, null_page_id}
use Rattle.paper.specs.Tables.{HS, Tables, no_slot, clock_of, slot_free}
use Rattle.paper.specs.Sound.{slot_sound}
use Rattle.paper.specs.Stores.{full_slot, create_page}
use Rattle.paper.specs.Steps.{step, on_pages, in_pages}
use Rattle.paper.specs.Requests.{put_page_id}
use Rattle.paper.specs.Plain.{with_page}
use Rattle.paper.specs.View.{page_shown, file_shown}
use Rattle.paper.proofs.Searched.{page_none, page_at_lem}
use Rattle.plain.proofs.Lists.{Search, search_of, put_here, at_set}
use Rattle.plain.proofs.Facts.{page_at, slot_of, Backs, Facts}
use Rattle.plain.proofs.Shown.{Same}
use Rattle.plain.proofs.Pages.{Unnamed, unnamed_fits, free_unnamed, slot_same}
use Rattle.plain.proofs.Stored.{From, Storable}
use Rattle.plain.proofs.Phases.{Job, Makes, Before, keeps}

-- slot p holds the page until e, and nobody names it
pub record Made (b : Bank) (p e : ℕ) (page : List ℕ) (t : Tables) : Type 0 where
  pub low : 1 ≤ p
  pub high : p ≤ b.slots
  pub unnamed : Unnamed t p
  pub there : slot_of b t.ps p ≡ full_slot page e

-- what is known of the Header Store is still known
module _ (b : Bank) (X : HS → Type 0) (page : List ℕ) (e : ℕ) where
  made : (t : Tables) → Facts b t → X t.hs → Search (slot_free (clock_of t)) (no_slot b) t.ps
      → Makes (λ p t'. Same b t t' × (X t'.hs × Made b p e page t')) (on_pages (create_page (clock_of t) page e) t)
  unfolding in_pages slot_sound
  made t f x (Search.found p g lo hi q) =
      let un : Unnamed t p = free_unnamed b t p f lo q in
      let top : p ≤ b.slots = omega (arith, f.count) in
      let there = put_here (no_slot b) t.ps p (full_slot page e) lo hi in
      rw (page_at_lem (clock_of t) e page t.ps p g)
      (slot_same b t p (full_slot page e) f lo top refl (unnamed_fits b t p (full_slot page e) un), (x, record { low = lo; high = top; unnamed = un; there = there }))
  made t f x (Search.missed g h) = rw (page_none (clock_of t) e page t.ps g) (omega arith)

pub makes_page : {j : Job} (X : HS → Type 0) (page : List ℕ) (e : ℕ)
    → Before j (λ t. X t.hs) (step (on_pages (create_page j.now page e))) (λ p t. X t.hs × Made j.bank p e page t)
makes_page {j} X page e =
    keeps (on_pages (create_page j.now page e))
    (λ t f c x. rw (← c) (made j.bank X page e t f x (search_of (slot_free (clock_of t)) (no_slot j.bank) t.ps)))

-- the header with the page's id at its number
module _ (b : Bank) (t : Tables) (n p : ℕ) (number : PageNum) (page : List ℕ) (h : Header) (s : Storable b t n number.0 p h) (m : Made b p h.expires page t)
    (late : clock_of t ≤ h.expires) (room : number.0 ≤ 15) where
  abbrev h' : Header
  h' = put_page_id (clock_of t) number (page_id p) h

  pub at_pages : (P : ℕ → ℕ → Type 0) → P number.0 p → ((k : ℕ) → k ≢ number.0 → P k (page_at h k)) → (k : ℕ) → P k (page_at (put_page_id (clock_of t) number (page_id p) h) k)
  at_pages P = at_set null_page_id h.pages number.0 (page_id p) (omega (arith, s.sixteen)) (λ k (q : PageId). P k q.0)

  pub page_storable : Storable b t n number.0 p (put_page_id (clock_of t) number (page_id p) h)
  page_storable = record {
    low = s.low;
    high = s.high;
    used = s.used;
    made = omega (arith, s.made, s.past);
    past = omega arith;
    ends = late;
    sixteen = length-set h.pages number.0 (page_id p) ∙ s.sixteen;
    from = at_pages (λ k y. From b t n number.0 p k y) (From.new refl refl m.high m.unnamed) (λ k ne. s.from k);
    backed = λ l. at_pages (λ k y. y ≢ 0 → Backs (slot_of b t.ps y) h.expires)
        (λ _. rw m.there (record { used = refl; long = omega arith }))
        (λ k ne. s.backed (record { used = l.used; until = l.until }) k);
  }

  page_shown_lem : (k : ℕ) → page_shown b t.ps (page_id (page_at h' k)) ≡ cond (eqb k number.0) (Some page) (page_shown b t.ps (page_id (page_at h k)))
  page_shown_lem = at_pages (λ k y. page_shown b t.ps (page_id y) ≡ cond (eqb k number.0) (Some page) (page_shown b t.ps (page_id (page_at h k))))
      (rw (eq-eqb number.0 number.0 refl, ne_eqb p 0 (omega (arith, m.low)), m.there))
      (λ k ne. rw (ne_eqb k number.0 ne))

  pub file_with_page : file_shown b t.ps (put_page_id (clock_of t) number (page_id p) h) ≡ record {
    facts = record { owner = h.owner; created = h.created; updated = clock_of t; expires = h.expires };
    pages = with_page number page (file_shown b t.ps h).pages;
  }
  file_with_page = λ i. record {
    facts = record { owner = h.owner; created = h.created; updated = clock_of t; expires = h.expires };
    pages = λ k. page_shown_lem k.0 i;
  }
