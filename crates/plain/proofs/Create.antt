-- Create loses nothing: its page is made in a slot that nobody names, and the header that takes it in is the plain machine's new file.
-- Assumes nothing.
use Prim.Native.Nat.{ℕ, ◌≤◌}
use mathlib.Core.Path.{◌≡◌, refl, sym, ap, subst⁻¹, ◌∙◌}
use mathlib.Core.Bool.{true, true≢false}
use mathlib.Core.List.{List}
use Rattle.std.specs.Prelude.{None}
use native.Mathlib.Omega.{arith}
use borrow.Author.Tests.{leb-true, lt-leb}
use lib.ListN.{length, get_or}
use lib.Dec.{leb, eqb}
use Rattle.paper.specs.declared.Bank.{Bank}
use Rattle.paper.specs.declared.PageId.{PageId}
use Rattle.paper.specs.declared.PageNum.{PageNum}
use Rattle.paper.specs.declared.Header.{Header}
use Rattle.paper.specs.Ids.{file_id, page_id, null_page_id, later}
use Rattle.paper.specs.Tables.{Tables, no_pages, no_header, clock_of, header_at, header_free}
use Rattle.paper.specs.Stores.{create_header}
use Rattle.paper.specs.Steps.{on_headers, in_headers}
use Rattle.paper.specs.Answers.{Create, an_id}
use Rattle.paper.specs.Requests.{steps_of, create, make_header, put_page_id, facts_of, page_fits, well_formed}
use Rattle.paper.specs.Plain.{deed, plain_create, with_page}
use Rattle.paper.specs.View.{page_shown, view}
use Rattle.paper.proofs.Searched.{header_none, header_at_lem}
use Rattle.plain.specs.Demand.{NothingLost}
use Rattle.paper.proofs.Tests.{both}
use Rattle.plain.proofs.Lists.{Search, search_of, at-replicate}
use Rattle.plain.proofs.Facts.{Live}
use Rattle.plain.proofs.Shown.{files_of, miss_test}
use Rattle.plain.proofs.Stored.{From, Storable, stores}
use Rattle.plain.proofs.Made.{Made, makes_page, page_storable, file_with_page}
use Rattle.plain.proofs.Logic.{◌>>=◌, gives}
use Rattle.plain.proofs.Phases.{Job, Phase, Shows, Anything, Makes, carries_out}
use Rattle.plain.proofs.Closing.{job_of, Row, nothing_lost_by}

-- a page's number is at most 15
pub page_number : (b : Bank) (number : PageNum) (page : List ℕ) → page_fits b number page ≡ true → number.0 ≤ 15
unfolding page_fits
page_number b number page e = leb-true _ _ (both (leb number.0 15) (eqb (length page) b.size) e).0

-- a header without pages may be stored in a free slot
no_page : (m : ℕ) → (get_or no_pages m null_page_id).0 ≡ 0
no_page m = ap (λ (p : PageId). p.0) (at-replicate 16 m null_page_id)

free_dead : (c : ℕ) (h : Header) → header_free c h ≡ true → Live c h → ⊥
free_dead c h e l = true≢false (sym e ∙ rw (l.used, lt-leb h.expires c l.until))

module _ (b : Bank) (t : Tables) (client n number p e : ℕ) (lo : 1 ≤ n) (hi : n ≤ length t.hs.headers) (late : clock_of t ≤ e) where
  made_storable : Storable b t n number p (make_header (clock_of t) client e)
  made_storable = record {
    low = lo;
    high = hi;
    used = refl;
    made = omega arith;
    past = omega arith;
    ends = late;
    sixteen = refl;
    from = λ m. From.nil (no_page m);
    backed = λ l m ne. absurd (ne (no_page m));
  }

module _ (b : Bank) (now client : ℕ) (number : PageNum) (page : List ℕ) (expires : ℕ) (t₀ : Tables) (room : number.0 ≤ 15) where
  abbrev j : Job
  j = job_of b now (Create client number page expires) t₀

  blank : (t : Tables) (k : PageNum) → page_shown b t.ps (page_id (get_or no_pages k.0 null_page_id).0) ≡ None
  blank t k = ap (λ y. page_shown b t.ps (page_id y)) (no_page k.0)

  abbrev header : Tables → Header
  header t = make_header (clock_of t) client (later expires (clock_of t))

  stores_at : (p : ℕ) (t : Tables) → Shows j Phase.waits t → Made b p (later expires (clock_of t)) page t → Search (header_free (clock_of t)) no_header t.hs.headers
      → Makes (λ i t'. Shows j (Phase.done (an_id (file_id i))) t' × Anything t') (on_headers (create_header (clock_of t) (put_page_id (clock_of t) number (page_id p) (header t))) t)
  unfolding deed plain_create view in_headers
  stores_at p t s m (Search.missed g _) = rw (header_none (clock_of t) t.hs (put_page_id (clock_of t) number (page_id p) (header t)) g) (omega arith)
  stores_at p t s m (Search.found n g lo hi q) =
      let late : clock_of t ≤ later expires (clock_of t) = omega arith in
      let made = made_storable b t client n number.0 p (later expires (clock_of t)) lo hi late in
      rw (header_at_lem (clock_of t) t.hs (put_page_id (clock_of t) number (page_id p) (header t)) n g)
      (stores Anything t (files_of b t) _ s (page_storable b t n p number page (header t) made m late room)
      (λ x. rw (miss_test (clock_of t) x (header_at t.hs n) (λ w. free_dead _ _ q w.live)))
      (file_with_page b t n p number page (header t) made m late room ∙ λ i. record { facts = facts_of (header t); pages = with_page number page (λ k. blank t k i) })
      refl tt)

  create_row : Row (job_of b now (Create client number page expires) t₀)
  unfolding steps_of create
  create_row = do
    p ← makes_page (λ s. Unit {0}) page (later expires now)
    i ← carries_out (λ c. create_header c (put_page_id c number (page_id p) (make_header c client (later expires c)))) (λ i. an_id (file_id i))
        (λ t s m. stores_at p t s (subst⁻¹ (λ c. Made b p (later expires c) page t) s.clock m.1) (search_of (header_free (clock_of t)) no_header t.hs.headers))
    gives (an_id (file_id i)) (λ u t s. s.shows)

pub create_loses_nothing : (b : Bank) (client : ℕ) (number : PageNum) (page : List ℕ) (expires : ℕ) → NothingLost b (Create client number page expires)
unfolding well_formed
create_loses_nothing b client number page expires =
    nothing_lost_by b (Create client number page expires) (λ now t w. create_row b now client number page expires t (page_number b number page w))
