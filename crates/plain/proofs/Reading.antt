-- Info and Read lose nothing: no step changes the tables, and what they give is what the plain machine's file holds.
-- Assumes nothing.
use Prim.Native.Nat.{ℕ}
use mathlib.Core.Path.{◌≡◌, refl, ◌∙◌}
use mathlib.Core.Bool.{not}
use mathlib.Core.List.{List}
use native.Mathlib.Omega.{arith}
use borrow.Author.Tests.{not-true}
use Rattle.paper.specs.declared.Bank.{Bank}
use Rattle.paper.specs.declared.FileId.{FileId}
use Rattle.paper.specs.declared.PageId.{PageId}
use Rattle.paper.specs.declared.PageNum.{PageNum}
use Rattle.paper.specs.declared.Refusal.TheVariants.{NoSuchPage}
use Rattle.paper.specs.Ids.{page_id}
use Rattle.paper.specs.Lists.{is_zero}
use Rattle.paper.specs.Tables.{Tables, get_page_id, slot_at}
use Rattle.paper.specs.Stores.{read_page}
use Rattle.paper.specs.Steps.{step, on_pages, in_pages}
use Rattle.paper.specs.Answers.{Info, Read, facts, contents}
use Rattle.paper.specs.Requests.{steps_of, info, read, facts_of}
use Rattle.paper.specs.Plain.{deed, plain_info, plain_read}
use Rattle.paper.specs.View.{view}
use Rattle.plain.specs.Demand.{NothingLost}
use Rattle.plain.proofs.Logic.{◌>>=◌, ◌>>◌, gives}
use Rattle.plain.proofs.Phases.{Job, Before, carried_by, keeps, tests, learns}
use Rattle.plain.proofs.Found.{finds, reads_header, on_found}
use Rattle.plain.proofs.Closing.{job_of, Row, nothing_lost_by}

reads_page : {j : Job} {X : Tables → Type 0} (p : PageId) → Before j X (step (on_pages (read_page p))) (λ n t. X t × (n ≡ p.0))
unfolding read_page in_pages
reads_page p = keeps (on_pages (read_page p)) (λ t f c x. (record { facts = f; view = refl }, (x, refl)))

module _ (b : Bank) (now : ℕ) (id : FileId) where
  info_row : (t : Tables) → Row (job_of b now (Info id) t)
  unfolding steps_of info deed plain_info view
  info_row t₀ = do
    n ← finds
    h ← reads_header n
    gives (facts (facts_of h)) (λ u t s. carried_by t s.shows s.shows.facts refl (on_found t s.shows s.also _))

  module _ (number : PageNum) (lent : List ℕ) where
    read_row : (t : Tables) → Row (job_of b now (Read id number lent) t)
    unfolding steps_of read deed plain_read view read_page in_pages
    read_row t₀ = do
      n ← finds
      h ← reads_header n
      tests (not (is_zero (get_page_id h number).0)) NoSuchPage (omega arith)
      p ← reads_page (get_page_id h number)
      c ← learns (λ t. (slot_at b t.ps (page_id p)).contents)
      gives (contents c) (λ u t s. carried_by t s.shows s.shows.facts refl
          (on_found t s.shows s.also.0.0.0 _ ∙ rw (not-true (is_zero (get_page_id h number).0) s.also.0.0.1, s.also.1, s.also.0.1)))

pub info_loses_nothing : (b : Bank) (id : FileId) → NothingLost b (Info id)
info_loses_nothing b id = nothing_lost_by b (Info id) (λ now t _. info_row b now id t)

pub read_loses_nothing : (b : Bank) (id : FileId) (number : PageNum) (lent : List ℕ) → NothingLost b (Read id number lent)
read_loses_nothing b id number lent = nothing_lost_by b (Read id number lent) (λ now t _. read_row b now id number lent t)
