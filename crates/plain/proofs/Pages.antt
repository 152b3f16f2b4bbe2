-- The page slots changed: tables stay sound and show the same where each page of a live header is still held, with its contents.
-- Assumes nothing.
use Prim.Native.Nat.{ℕ, ◌≤◌}
use mathlib.Core.Path.{◌≡◌, refl, sym, ap, ◌∙◌}
use mathlib.Core.Logic.{◌≢◌}
use mathlib.Core.Bool.{true, true≢false}
use Rattle.std.specs.Prelude.{Some}
use native.Mathlib.Decide.{ℕ_discrete}
use native.Mathlib.Omega.{arith}
use borrow.Author.Tests.{lt-leb}
use lib.ListN.{length}
use Rattle.paper.specs.declared.Bank.{Bank}
use Rattle.paper.specs.declared.FileId.{FileId}
use Rattle.paper.specs.Ids.{page_id}
use Rattle.paper.specs.Lists.{put_at}
use Rattle.paper.specs.Tables.{Slot, PS, Tables, no_slot, clock_of, header_at, slot_free}
use Rattle.paper.specs.Sound.{slot_sound}
use Rattle.paper.specs.Requests.{facts_of}
use Rattle.paper.specs.View.{page_shown, file_shown, view}
use Rattle.plain.proofs.Lists.{at_put, put_here, put_else, length_put}
use Rattle.plain.proofs.Facts.{slot_of, Backs, Facts, LiveAt, page_in}
use Rattle.plain.proofs.Shown.{Look, look, files_of, same_view, Same}

abbrev pub with_pages : PS → Tables → Tables
with_pages ps t = record { hs = t.hs; ps = ps }

-- a live header that expires at e sees slot r where slot s was
pub record Serves (s r : Slot) (e : ℕ) : Type 0 where
  pub backs : Backs r e
  pub same : r.contents ≡ s.contents

module _ (b : Bank) (t : Tables) (ps : PS) (f : Facts b t) (count : length ps ≡ b.slots) (slot : (k : ℕ) → slot_sound (slot_of b ps k) ≡ true)
    (serves : (i n : ℕ) → LiveAt t i → page_in t i n ≢ 0
    → Serves (slot_of b t.ps (page_in t i n)) (slot_of b ps (page_in t i n)) (header_at t.hs i).expires) where
  pages_facts : Facts b (with_pages ps t)
  pages_facts = record {
    count = count;
    next_low = f.next_low;
    next_high = f.next_high;
    spare = f.spare;
    header = f.header;
    slot = slot;
    ids = f.ids;
    backed = λ i l n ne. (serves i n l ne).backs;
    once = f.once;
  }

  pages_view : view b (with_pages ps t) ≡ view b t
  unfolding view
  pages_view = same_view b (with_pages ps t) (files_of b t) (λ x. go x (look t x))
    where
      page : (i n : ℕ) → LiveAt t i → Dec (page_in t i n ≡ 0)
          → page_shown b ps (page_id (page_in t i n)) ≡ page_shown b t.ps (page_id (page_in t i n))
      page i n l (yes z) = rw z
      page i n l (no ne) = rw (serves i n l ne).same

      file : (i : ℕ) → LiveAt t i → file_shown b ps (header_at t.hs i) ≡ file_shown b t.ps (header_at t.hs i)
      file i l = λ j. record { facts = facts_of (header_at t.hs i); pages = λ n. page i n.0 l (ℕ_discrete (page_in t i n.0) 0) j }

      go : (x : FileId) → Look t x → files_of b (with_pages ps t) x ≡ files_of b t x
      go x (Look.at n e q) = rw e (ap Some (file n q.live))
      go x (Look.nowhere e h) = rw e

  pub pages_same : Same b t (with_pages ps t)
  pages_same = record { facts = pages_facts; view = pages_view }

-- one slot changed: what each live header that names it sees
abbrev pub Fits : Bank → Tables → ℕ → Slot → Type 0
Fits b t k s = (i n : ℕ) → LiveAt t i → page_in t i n ≡ k → Serves (slot_of b t.ps k) s (header_at t.hs i).expires

module _ (b : Bank) (t : Tables) (k : ℕ) (s : Slot) (f : Facts b t) (lo : 1 ≤ k) (hi : k ≤ b.slots) (ok : slot_sound s ≡ true) (fits : Fits b t k s) where
  inside : k ≤ length t.ps
  inside = omega (arith, f.count)

  slot_ok : (j : ℕ) → slot_sound (slot_of b (put_at k s t.ps) j) ≡ true
  slot_ok = at_put (no_slot b) t.ps k s lo inside (λ j r. slot_sound r ≡ true) ok (λ j _. f.slot j)

  slot_serves : (i n : ℕ) → LiveAt t i → page_in t i n ≢ 0
      → Serves (slot_of b t.ps (page_in t i n)) (slot_of b (put_at k s t.ps) (page_in t i n)) (header_at t.hs i).expires
  slot_serves i n l ne = go (ℕ_discrete (page_in t i n) k)
    where
      go : Dec (page_in t i n ≡ k) → Serves (slot_of b t.ps (page_in t i n)) (slot_of b (put_at k s t.ps) (page_in t i n)) (header_at t.hs i).expires
      go (yes e) = rw (e, put_here (no_slot b) t.ps k s lo inside) (fits i n l e)
      go (no d) = rw (put_else (no_slot b) t.ps k s (page_in t i n) d) (record { backs = f.backed i l n ne; same = refl })

  pub slot_same : Same b t (with_pages (put_at k s t.ps) t)
  slot_same = pages_same b t (put_at k s t.ps) f (length_put k s t.ps ∙ f.count) slot_ok slot_serves

-- a slot that no live header names may be changed at will; a free slot is one
abbrev pub Unnamed : Tables → ℕ → Type 0
Unnamed t k = (i n : ℕ) → LiveAt t i → page_in t i n ≡ k → ⊥

pub unnamed_fits : (b : Bank) (t : Tables) (k : ℕ) (s : Slot) → Unnamed t k → Fits b t k s
unnamed_fits b t k s u i n l e = absurd (u i n l e)

pub free_unnamed : (b : Bank) (t : Tables) (k : ℕ) → Facts b t → 1 ≤ k → slot_free (clock_of t) (slot_of b t.ps k) ≡ true → Unnamed t k
free_unnamed b t k f lo e i n l p =
    let g : Backs (slot_of b t.ps k) (header_at t.hs i).expires = rw p at (f.backed i l n (omega arith)) in
    true≢false (sym e ∙ rw (g.used, lt-leb (slot_of b t.ps k).expires (clock_of t) (omega arith)))
