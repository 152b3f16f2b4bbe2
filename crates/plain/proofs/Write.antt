-- Write loses nothing: the new page is named by nobody until the header takes it in, and the former page by nobody after that.
-- Assumes nothing.
use Prim.Native.Nat.{ℕ, ◌+◌, ◌≤◌}
use mathlib.Core.Path.{◌≡◌, sym, subst, ◌∙◌}
use mathlib.Core.Logic.{◌≢◌}
use mathlib.Core.Bool.{cond}
use mathlib.Core.List.{List, [], ◌∷◌}
use Rattle.std.specs.Prelude.{None}
use native.Mathlib.Omega.{arith}
use lib.Dec.{eqb}
use Rattle.paper.specs.declared.Bank.{Bank}
use Rattle.paper.specs.declared.FileId.{FileId}
use Rattle.paper.specs.declared.PageNum.{PageNum}
use Rattle.paper.specs.declared.Header.{Header}
use Rattle.paper.specs.Ids.{file_id, page_id}
use Rattle.paper.specs.Tables.{Tables, clock_of, header_at, get_page_id}
use Rattle.paper.specs.Stores.{replace_header}
use Rattle.paper.specs.Steps.{on_headers}
use Rattle.paper.specs.Answers.{Write, an_id}
use Rattle.paper.specs.Requests.{steps_of, write, put_page_id, well_formed}
use Rattle.paper.specs.Plain.{deed, plain_write}
use Rattle.paper.specs.View.{view}
use Rattle.plain.specs.Demand.{NothingLost}
use Rattle.plain.proofs.Facts.{page_at, Live}
use Rattle.plain.proofs.Shown.{files_of}
use Rattle.plain.proofs.Headers.{dropped}
use Rattle.plain.proofs.Stored.{Storable, live_storable, stores}
use Rattle.plain.proofs.Made.{Made, makes_page, at_pages, page_storable, file_with_page}
use Rattle.plain.proofs.Logic.{◌>>=◌, ◌>>◌, gives}
use Rattle.plain.proofs.Phases.{Job, Phase, Shows, Makes, carries_out}
use Rattle.plain.proofs.Found.{Mine, finds, reads_header, owns, found_hit, on_found, without_found}
use Rattle.plain.proofs.Wiped.{AllLoose, one_loose, wipes}
use Rattle.plain.proofs.Closing.{job_of, Row, nothing_lost_by}
use Rattle.plain.proofs.Create.{page_number}

module _ (b : Bank) (now client : ℕ) (id : FileId) (number : PageNum) (page : List ℕ) (t₀ : Tables) (room : number.0 ≤ 15) where
  abbrev j : Job
  j = job_of b now (Write client id number page) t₀

  -- the header step on header h
  abbrev Stores : ℕ → ℕ → Tables → Header → Type 0
  Stores n p t h =
      Makes (λ i t'. Shows j (Phase.done (an_id (file_id i))) t' × AllLoose b (get_page_id h number ∷ []) t')
      (on_headers (replace_header n (put_page_id (clock_of t) number (page_id p) h)) t)

  module _ (n p : ℕ) (t : Tables) (s : Shows j Phase.waits t) (w : Mine j id client n (header_at t.hs n) t.hs) (m : Made b p (header_at t.hs n).expires page t) where
    abbrev h : Header
    h = header_at t.hs n

    live : Live (clock_of t) h
    live = (found_hit t s w.0).live

    late : clock_of t ≤ h.expires
    late = omega (arith, live.until)

    old : Storable b t n number.0 p h
    old = live_storable b t n number.0 p s.facts live

    -- the new header does not name the former page
    former : page_at h number.0 ≢ 0 → (k : ℕ) → page_at (put_page_id (clock_of t) number (page_id p) h) k ≡ page_at h number.0 → ⊥
    former ne =
        at_pages b t n p number page h old m late room (λ k y. y ≡ page_at h number.0 → ⊥) (λ e. m.unnamed n number.0 live (sym e))
        (λ k d e. d (s.facts.once n n live live k number.0 (λ q. ne (sym e ∙ q)) e).1)

    stores_at : Stores n p t (header_at t.hs n)
    unfolding deed plain_write view
    stores_at =
        stores (AllLoose b (get_page_id h number ∷ [])) t (λ x. cond (eqb x.0 id.0) None (files_of b t x)) _ s
        (page_storable b t n p number page h old m late room) (without_found t s w.0) (file_with_page b t n p number page h old m late room)
        (on_found t s w.0 _ ∙ rw w.1) (one_loose b (get_page_id h number) _ (λ ne. record {
          high = ((s.facts.header n).full live.used).small number.0;
          unnamed = dropped b t n number.0 (t.hs.control.next + 1) _ s.facts live ne (λ k _. former ne k);
        }))

  stores_found : (n p : ℕ) (h : Header) (t : Tables) → Shows j Phase.waits t → Mine j id client n h t.hs × Made b p h.expires page t → Stores n p t h
  stores_found n p h t s w =
      subst (λ (g : Header). Mine j id client n g t.hs → Made b p g.expires page t → Stores n p t g) w.0.0.at (stores_at n p t s) w.0 w.1

  write_row : Row (job_of b now (Write client id number page) t₀)
  unfolding steps_of write
  write_row = do
    n ← finds
    h ← reads_header n
    owns client h
    p ← makes_page (Mine j id client n h) page h.expires
    i ← carries_out (λ c. replace_header n (put_page_id c number (page_id p) h)) (λ i. an_id (file_id i)) (stores_found n p h)
    wipes (get_page_id h number ∷ [])
    gives (an_id (file_id i)) (λ u t s. s.shows)

pub write_loses_nothing : (b : Bank) (client : ℕ) (id : FileId) (number : PageNum) (page : List ℕ) → NothingLost b (Write client id number page)
unfolding well_formed
write_loses_nothing b client id number page =
    nothing_lost_by b (Write client id number page) (λ now t w. write_row b now client id number page t (page_number b number page w))
