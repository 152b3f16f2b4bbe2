-- A request as it is served: on records it loses nothing and leaves what fits, and on bytes it is the same with the tables written.
-- Assumes nothing.
use Prim.Native.Nat.{ℕ, ◌^◌, ◌<◌, ◌≤◌}
use mathlib.Core.Path.{◌≡◌, refl, sym, ◌∙◌}
use mathlib.Core.Bool.{Bool, true, false, ◌&&◌}
use mathlib.Core.List.{List}
use Rattle.std.specs.Prelude.{Result, Ok, Err}
use native.Mathlib.Omega.{arith}
use borrow.Author.Tests.{leb-true, le-leb, eq-eqb}
use lib.Dec.{leb}
use lib.ListN.{length, length-map}
use Rattle.bits.specs.Field.Within.{one}
use Rattle.bits.proofs.Within.{within_length}
use Rattle.paper.specs.declared.Bank.{Bank}
use Rattle.paper.specs.declared.PageId.{PageId}
use Rattle.paper.specs.declared.Refusal.{Refusal}
use Rattle.paper.specs.declared.Refusal.TheVariants.{BadCall, ClockBack}
use Rattle.paper.specs.declared.Header.{Header}
use Rattle.paper.specs.Tables.{Tables, clock_of, header_at}
use Rattle.paper.specs.Sound.{sound}
use Rattle.paper.specs.Answers.{Request, lent_page, refused, number_of}
use Rattle.paper.specs.Requests.{Reply, carry_out, well_formed, outcomes_fit, checked, serve}
use Rattle.paper.specs.Bytes.{tables_from, header_table, page_table}
use Rattle.paper.specs.Service.{written, untouched, refusal, serve_bytes}
use Rattle.paper.specs.View.{beside}
use Rattle.records.specs.Fits.{HeaderFits}
use Rattle.records.proofs.Tables.{hs_read, hs_written, hs_fits, ps_read, ps_written, ps_fits}
use Rattle.plain.specs.Demand.{Kept}
use Rattle.history.specs.History.{Given, Buffers}
use Rattle.paper.proofs.Tests.{both}
use Rattle.plain.proofs.Requests.{nothing_lost}
use Rattle.history.proofs.Ranges.{Fit, header_fits}
use Rattle.history.proofs.Fitting.{carried_out_fits}

-- a header that fits has sixteen page ids
sixteen : (h : Header) → HeaderFits h → length h.pages ≡ 16
sixteen h (one u (one i (one o (one c (one d (one e r)))))) = sym (length-map h.pages (λ (p : PageId). p.0)) ∙ within_length r

-- a request on sound tables is carried out, or refused for its form or its time
data Way (b : Bank) (now : ℕ) (q : Request) (t : Tables) (r : Result (Unit {0}) Refusal) : Type 0 where
  carried : r ≡ Ok tt → well_formed b q ≡ true → clock_of t ≤ now → Way b now q t r
  turned : (a : Refusal) → r ≡ Err a → 1 ≤ number_of a → number_of a ≤ 3 → Way b now q t r

module _ (b : Bank) (now : ℕ) (os : List ℕ) (q : Request) (t : Tables) where
  abbrev refusing : Refusal → Reply
  refusing a = record { report = refused a; page = lent_page q; tables = t; past = false }

  way : sound b t ≡ true → Way b now q t (checked b now os q t)
  unfolding checked
  way ok = go (well_formed b q && outcomes_fit os) refl (leb (clock_of t) now) refl
    where
      go : (u : Bool) → well_formed b q && outcomes_fit os ≡ u → (v : Bool) → leb (clock_of t) now ≡ v → Way b now q t (checked b now os q t)
      go true e true l = carried (rw (e, ok, l)) (both _ (outcomes_fit os) e).0 (leb-true _ _ l)
      go true e false l = turned ClockBack (rw (e, ok, l)) (omega arith) (omega arith)
      go false e v l = turned BadCall (rw e) (omega arith) (omega arith)

  as_carried : checked b now os q t ≡ Ok tt → serve b now os q t ≡ carry_out b now os q t
  unfolding serve
  as_carried z = rw (z, serve)

  as_refused : (a : Refusal) → checked b now os q t ≡ Err a → serve b now os q t ≡ refusing a
  unfolding serve
  as_refused a e = rw (e, serve)

  module _ (f : Fit b t) (ok : sound b t ≡ true) where
    pub served_kept : Kept b now q t (serve b now os q t)
    unfolding beside
    served_kept = go (way ok)
      where
        go : Way b now q t (checked b now os q t) → Kept b now q t (serve b now os q t)
        go (carried z w le) = rw (as_carried z) (nothing_lost b q now os t (record { sixteen = λ n. sixteen (header_at t.hs n) (header_fits n t.hs f.headers); whole = f.pages.count; sound = ok; time = le; formed = w }))
        go (turned a e lo hi) = rw (as_refused a e) (record {
          sound = ok;
          shown = rw (le-leb 1 (number_of a) lo, le-leb (number_of a) 3 hi);
          success = λ z. absurd (omega arith);
        })

    pub served_fits : b.slots ≤ 511 → now < 2 ^ 32 → Given q → Fit b (serve b now os q t).tables
    served_fits few time g = go (way ok)
      where
        go : Way b now q t (checked b now os q t) → Fit b (serve b now os q t).tables
        go (carried z w le) = rw (as_carried z) (carried_out_fits b few now time os q t g w f)
        go (turned a e lo hi) = rw (as_refused a e) f

module _ (b : Bank) (headers pages : List ℕ) (l : Buffers b headers pages) where
  pub buffers_fit : Fit b (tables_from b headers pages)
  buffers_fit = record { headers = hs_fits headers l.header_table_bytes l.header_table_len; pages = ps_fits b pages l.page_table_bytes l.page_table_len }

  pub served_bytes : (now : ℕ) (os : List ℕ) (q : Request) → serve_bytes b now os q headers pages ≡ written (serve b now os q (tables_from b headers pages))
  unfolding serve_bytes refusal serve
  served_bytes now os q = rw (eq-eqb _ _ l.header_table_len, eq-eqb _ _ l.page_table_len, serve_bytes) (go (checked b now os q (tables_from b headers pages)))
    where
      done : Reply
      done = carry_out b now os q (tables_from b headers pages)

      go : (r : Result (Unit {0}) Refusal) → elim r [ Ok u ↦ written done | Err a ↦ untouched a (lent_page q) headers pages ]
          ≡ written (elim r [ Ok u ↦ done | Err a ↦ refusing b now os q (tables_from b headers pages) a ])
      go (Ok u) = refl
      go (Err a) = λ i. record {
        report = refused a;
        page = lent_page q;
        headers = sym (hs_written headers l.header_table_bytes l.header_table_len) i;
        pages = sym (ps_written b pages l.page_table_bytes l.page_table_len) i;
      }

pub read_back : (b : Bank) (t : Tables) → Fit b t → tables_from b (header_table t.hs) (page_table t.ps) ≡ t
read_back b t f = λ i. record { hs = hs_read t.hs f.headers i; ps = ps_read b t.ps f.pages i }
