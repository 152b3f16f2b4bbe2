-- Scavenge loses nothing: what it zeroes is no live header, and no slot that a live header names.
-- Assumes nothing.
use Prim.Native.Nat.{ℕ, ◌<◌}
use mathlib.Core.Path.{◌≡◌, refl, sym, subst⁻¹, ◌∙◌}
use mathlib.Core.Logic.{◌≢◌}
use mathlib.Core.Bool.{Bool, true, false, cond, true≢false}
use mathlib.Core.List.{List, map}
use native.Mathlib.Omega.{arith}
use borrow.Author.Tests.{leb-true, lt-leb}
use lib.ListN.{length, length-map}
use lib.Dec.{leb}
use Rattle.paper.specs.declared.Bank.{Bank}
use Rattle.paper.specs.declared.FileId.{FileId}
use Rattle.paper.specs.declared.Header.{Header}
use Rattle.paper.specs.Lists.{numbered}
use Rattle.paper.specs.Tables.{Slot, Tables, no_header, no_slot, clock_of, header_at, header_expired, slot_expired, with_headers}
use Rattle.paper.specs.Sound.{slot_sound}
use Rattle.paper.specs.Stores.{scavenge_headers, scavenge_pages}
use Rattle.paper.specs.Steps.{on_headers, in_headers, on_pages, in_pages}
use Rattle.paper.specs.Answers.{Scavenge, counts}
use Rattle.paper.specs.Requests.{steps_of, scavenge}
use Rattle.paper.specs.Plain.{deed}
use Rattle.paper.specs.View.{view}
use Rattle.plain.specs.Demand.{NothingLost}
use Rattle.paper.proofs.Tests.{both}
use Rattle.plain.proofs.Lists.{numbered-map}
use Rattle.plain.proofs.Facts.{slot_of, Live, Backs, HeaderFacts, Backed, IdOnce, PageOnce, Facts, LiveAt, page_in}
use Rattle.plain.proofs.Sound.{zeros_zero, zeros_slot}
use Rattle.plain.proofs.Shown.{Hit, Look, look, files_of, files_at, files_none, same_view}
use Rattle.plain.proofs.Pages.{Serves, pages_same}
use Rattle.plain.proofs.Logic.{◌>>=◌, gives}
use Rattle.plain.proofs.Phases.{Job, Anything, Keeps, keeps, carried_by}
use Rattle.plain.proofs.Closing.{job_of, Row, nothing_lost_by}

-- a header after the sweep: as it was, or zeroed and not live before
data Swept (c : ℕ) (h g : Header) : Type 0 where
  same : g ≡ h → Swept c h g
  zeroed : g ≡ no_header → (Live c h → ⊥) → Swept c h g

sweeps : (c : ℕ) (h : Header) → Swept c h (cond (header_expired c h) no_header h)
sweeps c h = go (header_expired c h) refl
  where
    go : (u : Bool) → header_expired c h ≡ u → Swept c h (cond u no_header h)
    go true e = zeroed refl (λ l. omega (arith, leb-true h.expires c (both h.used (leb h.expires c) e).1, l.until))
    go false e = same refl

module _ (b : Bank) (t : Tables) (hs : List Header) (f : Facts b t) (sw : (n : ℕ) → Swept (clock_of t) (header_at t.hs n) (numbered no_header hs n)) where
  abbrev t' : Tables
  t' = record { hs = with_headers hs t.hs; ps = t.ps }

  -- one in use is as it was
  back : (n : ℕ) → (numbered no_header hs n).used ≡ true → numbered no_header hs n ≡ header_at t.hs n
  back n u = go (sw n)
    where
      go : Swept (clock_of t) (header_at t.hs n) (numbered no_header hs n) → numbered no_header hs n ≡ header_at t.hs n
      go (same e) = e
      go (zeroed e d) = absurd (true≢false (sym (rw e at u)))

  swept_facts : Facts b t'
  swept_facts = record {
    count = f.count;
    next_low = f.next_low;
    next_high = f.next_high;
    spare = f.spare;
    header = λ n. ok n (sw n);
    slot = f.slot;
    ids = λ i j u v. subst⁻¹ (λ (g : Header). IdOnce i j g (numbered no_header hs j)) (back i u) (subst⁻¹ (IdOnce i j (header_at t.hs i)) (back j v) (f.ids i j)) u v;
    backed = λ n l. subst⁻¹ (Backed b (clock_of t) t.ps) (back n l.used) (f.backed n) l;
    once = λ i j l k. subst⁻¹ (λ (g : Header). PageOnce (clock_of t) i j g (numbered no_header hs j)) (back i l.used)
        (subst⁻¹ (PageOnce (clock_of t) i j (header_at t.hs i)) (back j k.used) (f.once i j)) l k;
  }
    where
      ok : (n : ℕ) → Swept (clock_of t) (header_at t.hs n) (numbered no_header hs n) → HeaderFacts b t.hs.control (numbered no_header hs n)
      ok n (same e) = rw e (f.header n)
      ok n (zeroed e d) = rw e (record { blank = λ _. zeros_zero; full = λ u. absurd (true≢false (sym u)) })

  swept_view : view b t' ≡ view b t
  unfolding view
  swept_view = same_view b t' (files_of b t) (λ x. go x (look t x))
    where
      at : (x : FileId) (n : ℕ) → Hit (clock_of t) x (header_at t.hs n) → Swept (clock_of t) (header_at t.hs n) (numbered no_header hs n) → files_of b t' x ≡ files_of b t x
      at x n q (same e) = files_at b t' x n swept_facts (rw e q) ∙ rw (e, files_at b t x n f q)
      at x n q (zeroed e d) = absurd (d q.live)

      go : (x : FileId) → Look t x → files_of b t' x ≡ files_of b t x
      go x (Look.at n e q) = at x n q (sw n)
      go x (Look.nowhere e h) = files_none b t' x (λ n q. h n (rw (back n q.live.used) at q)) ∙ sym (files_none b t x h)

sweeps_headers : (j : Job) → Keeps j (on_headers (scavenge_headers j.now)) Anything (λ n. Anything)
unfolding scavenge_headers in_headers
sweeps_headers j t f c x = (record { facts = swept_facts b t hs f sw; view = swept_view b t hs f sw }, tt)
  where
    b : Bank
    b = j.bank

    hs : List Header
    hs = map (λ h. cond (header_expired j.now h) no_header h) t.hs.headers

    sw : (n : ℕ) → Swept (clock_of t) (header_at t.hs n) (numbered no_header hs n)
    sw n = rw (numbered-map (λ h. cond (header_expired j.now h) no_header h) no_header refl t.hs.headers n, ← c) (sweeps (clock_of t) (header_at t.hs n))

-- a slot that a live header names is not expired
held_stays : (b : Bank) (c : ℕ) (s : Slot) (e : ℕ) → Backs s e → c < e → cond (slot_expired c s) (no_slot b) s ≡ s
held_stays b c s e k lt =
    let no_expiry : slot_expired c s ≡ false = rw k.used (lt-leb s.expires c (omega (arith, k.long))) in
    rw no_expiry

sweeps_pages : (j : Job) → Keeps j (on_pages (scavenge_pages j.bank j.now)) Anything (λ n. Anything)
unfolding scavenge_pages in_pages
sweeps_pages j t f c x = (pages_same b t ps f count slot serves, tt)
  where
    b : Bank
    b = j.bank

    ps : List Slot
    ps = map (λ s. cond (slot_expired j.now s) (no_slot b) s) t.ps

    count : length ps ≡ b.slots
    count = length-map t.ps (λ s. cond (slot_expired j.now s) (no_slot b) s) ∙ f.count

    at : (k : ℕ) → slot_of b ps k ≡ cond (slot_expired j.now (slot_of b t.ps k)) (no_slot b) (slot_of b t.ps k)
    at k = numbered-map (λ s. cond (slot_expired j.now s) (no_slot b) s) (no_slot b) refl t.ps k

    slot : (k : ℕ) → slot_sound (slot_of b ps k) ≡ true
    slot k = rw (at k) (go (slot_expired j.now (slot_of b t.ps k)))
      where
        go : (u : Bool) → slot_sound (cond u (no_slot b) (slot_of b t.ps k)) ≡ true
        go true = zeros_slot b
        go false = f.slot k

    serves : (i n : ℕ) → LiveAt t i → page_in t i n ≢ 0
        → Serves (slot_of b t.ps (page_in t i n)) (slot_of b ps (page_in t i n)) (header_at t.hs i).expires
    serves i n l ne =
        let k = f.backed i l n ne in
        let stays = at (page_in t i n) ∙ held_stays b j.now _ (header_at t.hs i).expires k (omega (arith, l.until)) in
        rw stays (record { backs = k; same = refl })

module _ (b : Bank) (now : ℕ) (t₀ : Tables) where
  abbrev j : Job
  j = job_of b now Scavenge t₀

  scavenge_row : Row (job_of b now Scavenge t₀)
  unfolding steps_of scavenge deed
  scavenge_row = do
    h ← keeps (on_headers (scavenge_headers now)) (sweeps_headers j)
    p ← keeps (on_pages (scavenge_pages b now)) (sweeps_pages j)
    gives (counts (record { headers = h; pages = p })) (λ u t s. carried_by t s.shows s.shows.facts refl refl)

pub scavenge_loses_nothing : (b : Bank) → NothingLost b Scavenge
scavenge_loses_nothing b = nothing_lost_by b Scavenge (λ now t _. scavenge_row b now t)
