-- The steps with which a request begins: its file's header is found by the id and read, and its owner checked.
-- Assumes nothing.
use Prim.Native.Nat.{ℕ}
use mathlib.Core.Path.{◌≡◌, refl, sym, ◌∙◌}
use mathlib.Core.Bool.{Bool, true, false, cond}
use Rattle.std.specs.Prelude.{Some, None}
use native.Mathlib.Omega.{arith}
use borrow.Author.Tests.{eqb-true, eqb-false, eq-eqb, ne_eqb}
use lib.Dec.{eqb}
use Rattle.paper.specs.declared.FileId.{FileId}
use Rattle.paper.specs.declared.Header.{Header}
use Rattle.paper.specs.declared.Refusal.TheVariants.{NotOwner}
use Rattle.paper.specs.Tables.{HS, Tables, clock_of, header_at}
use Rattle.paper.specs.Stores.{has_id, read_header}
use Rattle.paper.specs.Steps.{step, ask, on_headers, in_headers}
use Rattle.paper.specs.Requests.{header_in, check_owner}
use Rattle.paper.specs.Plain.{File, Deed, on_file}
use Rattle.paper.specs.View.{file_shown, view}
use Rattle.paper.proofs.Searched.{read_none, read_at}
use Rattle.plain.proofs.Facts.{Facts}
use Rattle.plain.proofs.Shown.{Hit, live_id, Look, look, files_of, files_at, Same}
use Rattle.plain.proofs.Logic.{asks}
use Rattle.plain.proofs.Phases.{Job, Phase, Shows, Anything, Makes, Before, tests, keeps}

eqb_sym : (m n : ℕ) → eqb m n ≡ eqb n m
eqb_sym m n = go (eqb m n) refl
  where
    go : (u : Bool) → eqb m n ≡ u → eqb m n ≡ eqb n m
    go true e = e ∙ sym (eq-eqb n m (sym (eqb-true m n e)))
    go false e = e ∙ sym (ne_eqb n m (λ q. eqb-false m n e (sym q)))

-- header n of the Header Store is h, live with the id
pub record Found (j : Job) (id : FileId) (n : ℕ) (h : Header) (s : HS) : Type 0 where
  pub at : header_at s n ≡ h
  pub hit : Hit j.now id h

module _ {j : Job} {id : FileId} where
  pub finds : Before j Anything (step (on_headers (read_header j.now id))) (λ n t. Hit j.now id (header_at t.hs n))
  unfolding in_headers
  finds = keeps (on_headers (read_header j.now id)) (λ t f c x. rw (← c) (go t f (look t id)))
    where
      go : (t : Tables) → Facts j.bank t → Look t id → Makes (λ n t'. Same j.bank t t' × Hit (clock_of t) id (header_at t'.hs n)) (on_headers (read_header (clock_of t) id) t)
      go t f (Look.at n e q) = rw (read_at (clock_of t) t.hs id n e) (record { facts = f; view = refl }, q)
      go t f (Look.nowhere e h) = rw (read_none (clock_of t) t.hs id e) (omega arith)

  pub reads_header : (n : ℕ) → Before j (λ t. Hit j.now id (header_at t.hs n)) (ask (header_in n)) (λ h t. Found j id n h t.hs)
  reads_header n = asks (header_in n) (λ u t s. record { past = s.past; shows = s.shows; also = record { at = refl; hit = s.also } })

-- .. and the client's
abbrev pub Mine : Job → FileId → ℕ → ℕ → Header → HS → Type 0
Mine j id client n h s = Found j id n h s × (eqb h.owner client ≡ true)

pub owns : {j : Job} {id : FileId} {n : ℕ} (client : ℕ) (h : Header) → Before j (λ t. Found j id n h t.hs) (check_owner client h) (λ a t. Mine j id client n h t.hs)
owns client h = tests (eqb h.owner client) NotOwner (omega arith)

module _ {j : Job} {p : Phase} {id : FileId} {n : ℕ} {h : Header} (t : Tables) (s : Shows j p t) (w : Found j id n h t.hs) where
  pub found_hit : Hit (clock_of t) id (header_at t.hs n)
  found_hit = rw (s.clock, w.at) w.hit

  -- the plain machine goes on with the file of that header
  pub on_found : (d : File → Deed) → on_file id (view j.bank t) d ≡ d (file_shown j.bank t.ps h)
  unfolding view
  on_found d =
      let there : files_of j.bank t id ≡ Some (file_shown j.bank t.ps (header_at t.hs n)) = files_at j.bank t id n s.facts found_hit in
      rw (there, on_file, w.at)

  -- the files but that one
  pub without_found : (x : FileId) → cond (has_id (clock_of t) x (header_at t.hs n)) None (files_of j.bank t x) ≡ cond (eqb x.0 id.0) None (files_of j.bank t x)
  without_found x = rw (live_id (clock_of t) x (header_at t.hs n) found_hit.live, found_hit.same, eqb_sym id.0 x.0)
