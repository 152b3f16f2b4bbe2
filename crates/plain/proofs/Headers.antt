-- One header changed, and the next id with it: tables stay sound where the new header may stand there, and show it in place of the old one.
-- Assumes nothing.
use Prim.Native.Nat.{ℕ, ◌≤◌}
use mathlib.Core.Path.{◌≡◌, refl, sym, ◌∙◌}
use mathlib.Core.Logic.{◌≢◌}
use mathlib.Core.Bool.{Bool, true, false, cond, true≢false}
use Rattle.std.specs.Prelude.{Option, Some, None}
use native.Mathlib.Omega.{arith}
use lib.ListN.{length}
use Rattle.paper.specs.declared.Bank.{Bank}
use Rattle.paper.specs.declared.FileId.{FileId}
use Rattle.paper.specs.declared.Control.{Control}
use Rattle.paper.specs.declared.Header.{Header}
use Rattle.paper.specs.Ids.{no_more_ids}
use Rattle.paper.specs.Tables.{Tables, no_header, clock_of, header_at, put_header, with_control}
use Rattle.paper.specs.Stores.{has_id}
use Rattle.paper.specs.Plain.{File}
use Rattle.paper.specs.View.{file_shown}
use Rattle.plain.proofs.Lists.{put_here, put_else, at_put, at_put₂}
use Rattle.plain.proofs.Facts.{page_at, Live, HeaderFacts, Backed, IdOnce, PageOnce, Facts, not_live, used_in, LiveAt, page_in}
use Rattle.plain.proofs.Sound.{zeros_zero}
use Rattle.plain.proofs.Shown.{Hit, hit_facts, miss_facts, Look, look, files_of, files_at, files_none}
use Rattle.plain.proofs.Pages.{Unnamed}

abbrev pub at_next : ℕ → Tables → Control
at_next next t = record { next = next; clock = clock_of t }

abbrev pub with_header : ℕ → Header → ℕ → Tables → Tables
with_header n h next t = record { hs = put_header n h (with_control (at_next next t) t.hs); ps = t.ps }

-- header h may stand at number n, with that next id
pub record Allowed (b : Bank) (t : Tables) (n : ℕ) (h : Header) (next : ℕ) : Type 0 where
  pub low : 1 ≤ n
  pub high : n ≤ length t.hs.headers
  pub grows : t.hs.control.next ≤ next
  pub top : next ≤ no_more_ids
  pub ok : HeaderFacts b (at_next next t) h
  pub fresh : (j : ℕ) → j ≢ n → h.used ≡ true → (header_at t.hs j).used ≡ true → h.id.0 ≡ (header_at t.hs j).id.0 → ⊥
  pub backed : Backed b (clock_of t) t.ps h
  pub own : Live (clock_of t) h → (k m : ℕ) → page_at h k ≢ 0 → page_at h k ≡ page_at h m → k ≡ m
  pub apart : (j : ℕ) → j ≢ n → Live (clock_of t) h → LiveAt t j → (k m : ℕ) → page_at h k ≢ 0 → page_at h k ≡ page_in t j m → ⊥

-- the files once header n is h
abbrev pub files_after : Bank → Tables → ℕ → Header → FileId → Option File
files_after b t n h x =
    cond (has_id (clock_of t) x h) (Some (file_shown b t.ps h)) (cond (has_id (clock_of t) x (header_at t.hs n)) None (files_of b t x))

module _ (b : Bank) (t : Tables) (n : ℕ) (h : Header) (next : ℕ) (f : Facts b t) (a : Allowed b t n h next) where
  abbrev t' : Tables
  t' = with_header n h next t

  pub header_facts : Facts b (with_header n h next t)
  header_facts = record {
    count = f.count;
    next_low = omega (arith, f.next_low, a.grows);
    next_high = a.top;
    spare = f.spare;
    header = at_put no_header t.hs.headers n h a.low a.high (λ j g. HeaderFacts b (at_next next t) g) a.ok (λ j _. wider (f.header j));
    slot = f.slot;
    ids = at_put₂ no_header t.hs.headers n h a.low a.high IdOnce (λ _ _ _. refl)
        (λ j ne u v e. absurd (a.fresh j ne u v e)) (λ j ne u v e. absurd (a.fresh j ne v u (sym e))) f.ids;
    backed = at_put no_header t.hs.headers n h a.low a.high (λ j g. Backed b (clock_of t) t.ps g) a.backed (λ j _. f.backed j);
    once = at_put₂ no_header t.hs.headers n h a.low a.high (PageOnce (clock_of t))
        (λ l _ k m z e. (refl, a.own l k m z e))
        (λ j ne l v k m z e. absurd (a.apart j ne l v k m z e))
        (λ j ne v l k m z e. absurd (a.apart j ne l v m k (λ z'. z (e ∙ z')) (sym e)))
        f.once;
  }
    where
      wider : {g : Header} → HeaderFacts b t.hs.control g → HeaderFacts b (at_next next t) g
      wider o = record {
        blank = o.blank;
        full = λ u. let p = o.full u in record {
          id_low = p.id_low;
          id_high = omega (arith, a.grows, p.id_high);
          made = p.made;
          past = p.past;
          ends = p.ends;
          sixteen = p.sixteen;
          small = p.small;
        };
      }

  pub header_files : (x : FileId) → files_of b (with_header n h next t) x ≡ files_after b t n h x
  header_files x = go (has_id (clock_of t) x h) refl (has_id (clock_of t) x (header_at t.hs n)) refl (look t x)
    where
      here : header_at t'.hs n ≡ h
      here = put_here no_header t.hs.headers n h a.low a.high

      nobody : has_id (clock_of t) x h ≡ false → ((j : ℕ) → j ≢ n → Hit (clock_of t) x (header_at t.hs j) → ⊥) → files_of b t' x ≡ None
      nobody e g = files_none b t' x (at_put no_header t.hs.headers n h a.low a.high (λ j y. Hit (clock_of t) x y → ⊥) (miss_facts _ x h e) g)

      go : (u : Bool) → has_id (clock_of t) x h ≡ u → (v : Bool) → has_id (clock_of t) x (header_at t.hs n) ≡ v → Look t x → files_of b t' x ≡ files_after b t n h x
      go true e v d r = rw (e, files_at b t' x n header_facts (rw here (hit_facts _ x h e)), here)
      go false e true d r =
          let q = hit_facts _ x (header_at t.hs n) d in
          rw (e, d) (nobody e (λ j ne p. ne (f.ids j n p.live.used q.live.used (p.same ∙ sym q.same))))
      go false e false d (Look.at j g q) =
          let ne : j ≢ n = λ p. miss_facts _ x (header_at t.hs n) d (rw p at q) in
          let o : header_at t'.hs j ≡ header_at t.hs j = put_else no_header t.hs.headers n h j ne in
          rw (e, d) (files_at b t' x j header_facts (rw o q) ∙ rw (o, files_at b t x j f q))
      go false e false d (Look.nowhere g k) = rw (e, d) (nobody e (λ j _. k j) ∙ sym (files_none b t x k))

-- a header may be zeroed
pub zeros_allowed : (b : Bank) (t : Tables) (n : ℕ) → Facts b t → (header_at t.hs n).used ≡ true → Allowed b t n no_header t.hs.control.next
zeros_allowed b t n f u = record {
  low = (used_in t n u).0;
  high = (used_in t n u).1;
  grows = omega arith;
  top = f.next_high;
  ok = record { blank = λ _. zeros_zero; full = λ e. absurd (true≢false (sym e)) };
  fresh = λ j ne e. absurd (true≢false (sym e));
  backed = λ l. absurd (not_live _ l);
  own = λ l. absurd (not_live _ l);
  apart = λ j ne l. absurd (not_live _ l);
}

-- a page of the live header that was there, which the new header does not name, is then named by nobody
pub dropped : (b : Bank) (t : Tables) (n k next : ℕ) (h : Header) → Facts b t → LiveAt t n → page_in t n k ≢ 0
    → ((m : ℕ) → Live (clock_of t) h → page_at h m ≡ page_in t n k → ⊥) → Unnamed (with_header n h next t) (page_in t n k)
dropped b t n k next h f live z g =
    let i = used_in t n live.used in
    at_put no_header t.hs.headers n h i.0 i.1 (λ _ (y : Header). (m : ℕ) → Live (clock_of t) y → page_at y m ≡ page_in t n k → ⊥) g
    (λ j ne m l e. ne (f.once j n l live m k (λ q. z (sym e ∙ q)) e).0)
