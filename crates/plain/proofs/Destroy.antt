-- Destroy loses nothing: the zeroed header takes its file away and no other, and its pages are then named by nobody.
-- Assumes nothing.
use Prim.Native.Nat.{ℕ}
use mathlib.Core.Path.{◌≡◌, refl, sym, ap, subst, ◌∙◌}
use mathlib.Core.Bool.{cond}
use Rattle.std.specs.Prelude.{None}
use lib.Dec.{eqb}
use Rattle.paper.specs.declared.Bank.{Bank}
use Rattle.paper.specs.declared.FileId.{FileId}
use Rattle.paper.specs.declared.Header.{Header}
use Rattle.paper.specs.Tables.{Tables, no_header, header_at}
use Rattle.paper.specs.Stores.{destroy_header}
use Rattle.paper.specs.Steps.{on_headers, in_headers}
use Rattle.paper.specs.Answers.{Destroy, nothing}
use Rattle.paper.specs.Requests.{steps_of, destroy}
use Rattle.paper.specs.Plain.{does, deed, plain_destroy}
use Rattle.paper.specs.View.{view}
use Rattle.plain.specs.Demand.{NothingLost}
use Rattle.plain.proofs.Facts.{LiveAt, not_live}
use Rattle.plain.proofs.Shown.{files_of, same_view}
use Rattle.plain.proofs.Headers.{with_header, Allowed, header_facts, header_files, zeros_allowed, dropped}
use Rattle.plain.proofs.Logic.{◌>>=◌, ◌>>◌, gives}
use Rattle.plain.proofs.Phases.{Job, Phase, Shows, Makes, carried_by, carries_out}
use Rattle.plain.proofs.Found.{Mine, finds, reads_header, owns, found_hit, on_found, without_found}
use Rattle.plain.proofs.Wiped.{AllLoose, wipes}
use Rattle.plain.proofs.Closing.{job_of, Row, nothing_lost_by}

module _ (b : Bank) (now client : ℕ) (id : FileId) (t₀ : Tables) where
  abbrev j : Job
  j = job_of b now (Destroy client id) t₀

  module _ (n : ℕ) (h : Header) (t : Tables) (s : Shows j Phase.waits t) (w : Mine j id client n h t.hs) where
    abbrev t' : Tables
    t' = with_header n no_header t.hs.control.next t

    live : LiveAt t n
    live = (found_hit t s w.0).live

    ok : Allowed b t n no_header t.hs.control.next
    ok = zeros_allowed b t n s.facts live.used

    -- the file is taken away
    files : (x : FileId) → files_of b t' x ≡ cond (eqb x.0 id.0) None (files_of b t x)
    files x = header_files b t n no_header t.hs.control.next s.facts ok x ∙ without_found t s w.0 x

    loose : AllLoose b (header_at t.hs n).pages t'
    loose m ne = record {
      high = ((s.facts.header n).full live.used).small m;
      unnamed = dropped b t n m t.hs.control.next no_header s.facts live ne (λ _ l. absurd (not_live _ l));
    }

    zeroes : Makes (λ i t'. Shows j (Phase.done nothing) t' × AllLoose b h.pages t') (on_headers (destroy_header n) t)
    unfolding destroy_header in_headers deed plain_destroy view
    zeroes = (
      carried_by t' s (header_facts b t n no_header t.hs.control.next s.facts ok) refl
          (on_found t s w.0 _ ∙ rw w.1 (ap (does nothing) (sym (same_view b t' _ files)))),
      subst (λ (g : Header). AllLoose b g.pages t') w.0.at loose,
    )

  destroy_row : Row (job_of b now (Destroy client id) t₀)
  unfolding steps_of destroy
  destroy_row = do
    n ← finds
    h ← reads_header n
    owns client h
    carries_out (λ c. destroy_header n) (λ i. nothing) (zeroes n h)
    wipes h.pages
    gives nothing (λ u t s. s.shows)

pub destroy_loses_nothing : (b : Bank) (client : ℕ) (id : FileId) → NothingLost b (Destroy client id)
destroy_loses_nothing b client id = nothing_lost_by b (Destroy client id) (λ now t _. destroy_row b now client id t)
