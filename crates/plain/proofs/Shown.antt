-- What the tables show under an id: the live header that has it, which is one at most, or nothing.
-- Assumes nothing.
use Prim.Native.Nat.{ℕ}
use mathlib.Core.Path.{◌≡◌, refl, sym, ◌∙◌}
use mathlib.Core.Bool.{Bool, true, false, true≢false}
use Rattle.std.specs.Prelude.{Option, Some, None}
use borrow.Author.Tests.{eqb-true, eq-eqb}
use lib.Dec.{eqb}
use Rattle.paper.specs.declared.Bank.{Bank}
use Rattle.paper.specs.declared.FileId.{FileId}
use Rattle.paper.specs.declared.Header.{Header}
use Rattle.paper.specs.Lists.{lowest}
use Rattle.paper.specs.Tables.{Tables, no_header, clock_of, header_at, live}
use Rattle.paper.specs.Stores.{has_id}
use Rattle.paper.specs.Plain.{File}
use Rattle.paper.specs.View.{file_shown, file_found, view}
use Rattle.paper.proofs.Tests.{both}
use Rattle.plain.proofs.Lists.{Search, search_of}
use Rattle.plain.proofs.Facts.{Live, Facts, live_facts, live_test, used_in}

-- a live header with the id
pub record Hit (c : ℕ) (x : FileId) (h : Header) : Type 0 where
  pub live : Live c h
  pub same : h.id.0 ≡ x.0

module _ (c : ℕ) (x : FileId) (h : Header) where
  pub hit_facts : has_id c x h ≡ true → Hit c x h
  hit_facts e =
      let p = both (live c h) (eqb h.id.0 x.0) e in
      record { live = live_facts c h p.0; same = eqb-true _ _ p.1 }

  pub hit_test : Hit c x h → has_id c x h ≡ true
  hit_test q = rw (live_test c h q.live, eq-eqb _ _ q.same)

  pub miss_facts : has_id c x h ≡ false → Hit c x h → ⊥
  miss_facts e q = true≢false (sym (hit_test q) ∙ e)

  pub miss_test : (Hit c x h → ⊥) → has_id c x h ≡ false
  miss_test f = go (has_id c x h) refl
    where
      go : (u : Bool) → has_id c x h ≡ u → has_id c x h ≡ false
      go true e = absurd (f (hit_facts e))
      go false e = e

  -- of a live header only the id is left to be tested
  pub live_id : Live c h → has_id c x h ≡ eqb h.id.0 x.0
  live_id l = rw (live_test c h l)

-- what an id finds
pub data Look (t : Tables) (x : FileId) : Type 0 where
  at : (n : ℕ) → lowest (has_id (clock_of t) x) t.hs.headers ≡ Some n → Hit (clock_of t) x (header_at t.hs n) → Look t x
  nowhere : lowest (has_id (clock_of t) x) t.hs.headers ≡ None → ((n : ℕ) → Hit (clock_of t) x (header_at t.hs n) → ⊥) → Look t x

pub look : (t : Tables) (x : FileId) → Look t x
look t x = go (search_of (has_id (clock_of t) x) no_header t.hs.headers)
  where
    go : Search (has_id (clock_of t) x) no_header t.hs.headers → Look t x
    go (Search.found n e lo hi p) = at n e (hit_facts _ _ _ p)
    go (Search.missed e f) =
        nowhere e (λ n q. let i = used_in t n q.live.used in miss_facts _ _ _ (f n i.0 i.1) q)

abbrev pub files_of : Bank → Tables → FileId → Option File
files_of b t x = file_found b t (lowest (has_id (clock_of t) x) t.hs.headers)

module _ (b : Bank) (t : Tables) (x : FileId) where
  pub files_at : (n : ℕ) → Facts b t → Hit (clock_of t) x (header_at t.hs n) → files_of b t x ≡ Some (file_shown b t.ps (header_at t.hs n))
  files_at n f q = go (look t x)
    where
      go : Look t x → files_of b t x ≡ Some (file_shown b t.ps (header_at t.hs n))
      go (at m e p) = rw (e, f.ids m n p.live.used q.live.used (p.same ∙ sym q.same))
      go (nowhere e h) = absurd (h n q)

  pub files_none : ((n : ℕ) → Hit (clock_of t) x (header_at t.hs n) → ⊥) → files_of b t x ≡ None
  files_none f = go (look t x)
    where
      go : Look t x → files_of b t x ≡ None
      go (at m e p) = absurd (f m p)
      go (nowhere e h) = rw e

-- a machine is its clock, its next id and its files
pub same_view : (b : Bank) (t : Tables) (fs : FileId → Option File) → ((x : FileId) → files_of b t x ≡ fs x)
    → view b t ≡ record { clock = clock_of t; next = t.hs.control.next; files = fs }
unfolding view
same_view b t fs e = λ j. record { clock = clock_of t; next = t.hs.control.next; files = λ x. e x j }

-- tables that are sound and show the same
pub record Same (b : Bank) (t t' : Tables) : Type 0 where
  pub facts : Facts b t'
  pub view : view b t' ≡ view b t
