-- A header stored under the next id, in a free slot or in place of a live one: what it has to be, and that the tables then show the plain machine's new file.
-- Assumes nothing.
use Prim.Native.Nat.{ℕ, ◌+◌, ◌≤◌, ◌<◌}
use mathlib.Core.Path.{◌≡◌, refl, sym, ap, ◌∙◌}
use mathlib.Core.Logic.{◌≢◌}
use mathlib.Core.Bool.{Bool, true, false, cond, true≢false}
use Rattle.std.specs.Prelude.{Option, Some, None}
use native.Mathlib.Omega.{arith}
use borrow.Author.Tests.{eqb-true, eqb-false, eq-eqb, ne_eqb, lt-ltb, ltb-true}
use lib.ListN.{length}
use lib.Dec.{eqb, ltb}
use Rattle.paper.specs.declared.Bank.{Bank}
use Rattle.paper.specs.declared.FileId.{FileId}
use Rattle.paper.specs.declared.Header.{Header}
use Rattle.paper.specs.Ids.{file_id, no_more_ids}
use Rattle.paper.specs.Tables.{Tables, clock_of, header_at}
use Rattle.paper.specs.Stores.{named, has_id, replace_header}
use Rattle.paper.specs.Steps.{on_headers, in_headers}
use Rattle.paper.specs.Answers.{an_id}
use Rattle.paper.specs.Plain.{File, does, kept, storing, deed}
use Rattle.paper.specs.View.{file_shown, view}
use Rattle.plain.proofs.Facts.{page_at, Backed, Facts, used_in, LiveAt, page_in}
use Rattle.plain.proofs.Shown.{files_of, files_none, same_view}
use Rattle.plain.proofs.Pages.{Unnamed}
use Rattle.plain.proofs.Headers.{with_header, Allowed, files_after, header_facts, header_files}
use Rattle.plain.proofs.Phases.{Job, Phase, Shows, Makes, carried_by}

-- where page number m of a new header comes from: it has none, the live header before it had it there, or it is the new page k, which nobody names
pub data From (b : Bank) (t : Tables) (n number k m y : ℕ) : Type 0 where
  nil : y ≡ 0 → From b t n number k m y
  old : LiveAt t n → y ≡ page_in t n m → From b t n number k m y
  new : m ≡ number → y ≡ k → k ≤ b.slots → Unnamed t k → From b t n number k m y

-- header h may be stored at number n
pub record Storable (b : Bank) (t : Tables) (n number k : ℕ) (h : Header) : Type 0 where
  pub low : 1 ≤ n
  pub high : n ≤ length t.hs.headers
  pub used : h.used ≡ true
  pub made : h.created ≤ h.updated
  pub past : h.updated ≤ clock_of t
  pub ends : h.updated ≤ h.expires
  pub sixteen : length h.pages ≡ 16
  pub from : (m : ℕ) → From b t n number k m (page_at h m)
  pub backed : Backed b (clock_of t) t.ps h

-- a live header may be stored again where it is
pub live_storable : (b : Bank) (t : Tables) (n number k : ℕ) → Facts b t → LiveAt t n → Storable b t n number k (header_at t.hs n)
live_storable b t n number k f l =
    let u = (f.header n).full l.used in
    let i = used_in t n l.used in
    record {
      low = i.0;
      high = i.1;
      used = l.used;
      made = u.made;
      past = u.past;
      ends = u.ends;
      sixteen = u.sixteen;
      from = λ m. From.old l refl;
      backed = f.backed n;
    }

module _ (b : Bank) (t : Tables) (n number k : ℕ) (h : Header) (f : Facts b t) (s : Storable b t n number k h) where
  small : (m : ℕ) → page_at h m ≤ b.slots
  small m = go (s.from m)
    where
      go : From b t n number k m (page_at h m) → page_at h m ≤ b.slots
      go (nil e) = omega arith
      go (old l e) = omega (arith, ((f.header n).full l.used).small m)
      go (new p e u v) = omega arith

  own : (m m' : ℕ) → page_at h m ≢ 0 → page_at h m ≡ page_at h m' → m ≡ m'
  own m m' z e = go (s.from m) (s.from m')
    where
      go : From b t n number k m (page_at h m) → From b t n number k m' (page_at h m') → m ≡ m'
      go (nil p) y = absurd (z p)
      go (old l p) (nil q) = absurd (z (e ∙ q))
      go (old l p) (old l' q) = (f.once n n l l m m' (λ o. z (p ∙ o)) (sym p ∙ e ∙ q)).1
      go (old l p) (new i q hi v) = absurd (v n m l (sym p ∙ e ∙ q))
      go (new i p hi v) (nil q) = absurd (z (e ∙ q))
      go (new i p hi v) (old l q) = absurd (v n m' l (sym q ∙ sym e ∙ p))
      go (new i p hi v) (new i' q hi' v') = i ∙ sym i'

  apart : (j : ℕ) → j ≢ n → LiveAt t j → (m m' : ℕ) → page_at h m ≢ 0 → page_at h m ≡ page_in t j m' → ⊥
  apart j ne l m m' z e = go (s.from m)
    where
      go : From b t n number k m (page_at h m) → ⊥
      go (nil p) = z p
      go (old l' p) = ne (sym (f.once n j l' l m m' (λ o. z (p ∙ o)) (sym p ∙ e)).0)
      go (new i p hi v) = v j m' l (sym e ∙ p)

  module _ (ids : t.hs.control.next < no_more_ids) where
    abbrev next : ℕ
    next = t.hs.control.next

    abbrev stored : Tables
    stored = with_header n (named (file_id next) h) (next + 1) t

    allowed : Allowed b t n (named (file_id next) h) (next + 1)
    allowed = record {
      low = s.low;
      high = s.high;
      grows = omega arith;
      top = omega arith;
      ok = record {
        blank = λ e. absurd (true≢false (sym s.used ∙ e));
        full = λ _. record {
          id_low = f.next_low;
          id_high = omega arith;
          made = s.made;
          past = s.past;
          ends = s.ends;
          sixteen = s.sixteen;
          small = small;
        };
      };
      fresh = λ j ne u v e. omega (arith, ((f.header j).full v).id_high);
      backed = λ l. s.backed (record { used = l.used; until = l.until });
      own = λ l. own;
      apart = λ j ne l. apart j ne;
    }

    stored_facts : Facts b (with_header n (named (file_id t.hs.control.next) h) (t.hs.control.next + 1) t)
    stored_facts = header_facts b t n (named (file_id next) h) (next + 1) f allowed

    -- nothing has the next id yet
    unissued : (x : FileId) → x.0 ≡ next → files_of b t x ≡ None
    unissued x e = files_none b t x (λ j q. omega (arith, ((f.header j).full q.live.used).id_high, q.same))

    -- fs has the files of all other ids
    module _ (fs : FileId → Option File) (others : (x : FileId) → cond (has_id (clock_of t) x (header_at t.hs n)) None (files_of b t x) ≡ fs x) where
      nothing_there : (x : FileId) → x.0 ≡ next → fs x ≡ None
      nothing_there x e = sym (others x) ∙ go (has_id (clock_of t) x (header_at t.hs n))
        where
          go : (u : Bool) → cond u None (files_of b t x) ≡ None
          go true = refl
          go false = unissued x e

      stored_files : (x : FileId) → files_of b stored x ≡ cond (eqb x.0 next) (kept (clock_of t) (Some (file_shown b t.ps h))) (fs x)
      stored_files x = header_files b t n (named (file_id next) h) (next + 1) f allowed x ∙ go (eqb x.0 next) refl (ltb (clock_of t) h.expires) refl
        where
          go : (u : Bool) → eqb x.0 next ≡ u → (v : Bool) → ltb (clock_of t) h.expires ≡ v
              → files_after b t n (named (file_id next) h) x ≡ cond (eqb x.0 next) (kept (clock_of t) (Some (file_shown b t.ps h))) (fs x)
          go true e true l = rw (s.used, l, e, eq-eqb next x.0 (sym (eqb-true _ _ e)))
          go true e false l = rw (s.used, l, e, others x) (nothing_there x (eqb-true _ _ e))
          go false e true l = rw (s.used, l, e, ne_eqb next x.0 (λ q. eqb-false _ _ e (sym q))) (others x)
          go false e false l = rw (s.used, l, e) (others x)

      -- the plain machine stores the same file
      stored_deed : (file : File) → file_shown b t.ps h ≡ file → storing file (record { clock = clock_of t; next = t.hs.control.next; files = fs })
          ≡ does (an_id (file_id t.hs.control.next)) (view b (with_header n (named (file_id t.hs.control.next) h) (t.hs.control.next + 1) t))
      stored_deed file e =
          rw (lt-ltb next no_more_ids ids, ← e)
          (ap (does (an_id (file_id next)))
          (sym (same_view b stored (λ x. cond (eqb x.0 next) (kept (clock_of t) (Some (file_shown b t.ps h))) (fs x)) stored_files)))

-- the header step that stores the plain machine's file, where an id is left: Y holds of the tables then
pub stores : {j : Job} {n number k : ℕ} {h : Header} (Y : Tables → Type 0) (t : Tables) (fs : FileId → Option File) (file : File)
    → Shows j Phase.waits t → Storable j.bank t n number k h
    → ((x : FileId) → cond (has_id (clock_of t) x (header_at t.hs n)) None (files_of j.bank t x) ≡ fs x) → file_shown j.bank t.ps h ≡ file
    → deed j.request (view j.bank t) ≡ storing file (record { clock = clock_of t; next = t.hs.control.next; files = fs })
    → Y (with_header n (named (file_id t.hs.control.next) h) (t.hs.control.next + 1) t)
    → Makes (λ i t'. Shows j (Phase.done (an_id (file_id i))) t' × Y t') (on_headers (replace_header n h) t)
unfolding in_headers replace_header
stores {j} {n} {number} {k} {h} Y t fs file s ok others shown done y = go (ltb t.hs.control.next no_more_ids) refl
  where
    go : (u : Bool) → ltb t.hs.control.next no_more_ids ≡ u → Makes (λ i t'. Shows j (Phase.done (an_id (file_id i))) t' × Y t') (on_headers (replace_header n h) t)
    go true e =
        let ids = ltb-true _ _ e in
        rw (e, replace_header, in_headers)
        (carried_by _ s (stored_facts j.bank t n number k h s.facts ok ids) refl (done ∙ stored_deed j.bank t n number k h s.facts ok ids fs others file shown), y)
    go false e = rw (e, replace_header, in_headers) (omega arith)
