-- Sound tables as facts: over header numbers, page numbers and slot numbers, whatever they are.
-- Assumes nothing.
use Prim.Native.Nat.{ℕ, ◌≤◌, ◌<◌}
use mathlib.Core.Path.{◌≡◌, sym}
use mathlib.Core.Logic.{◌≢◌}
use mathlib.Core.Bool.{true, false, true≢false}
use borrow.Author.Tests.{ltb-true, lt-ltb}
use lib.ListN.{length, get_or}
use lib.Dec.{ltb}
use Rattle.paper.specs.declared.Bank.{Bank}
use Rattle.paper.specs.declared.Control.{Control}
use Rattle.paper.specs.declared.Header.{Header}
use Rattle.paper.specs.Ids.{null_page_id, no_more_ids}
use Rattle.paper.specs.Lists.{numbered}
use Rattle.paper.specs.Tables.{Slot, PS, Tables, no_header, no_slot, clock_of, header_at, live}
use Rattle.paper.specs.Sound.{zero_header, slot_sound}
use Rattle.paper.proofs.Tests.{both}
use Rattle.plain.proofs.Lists.{numbered_in}

-- the page id at a page number, and the slot of a page id, as numbers
abbrev pub page_at : Header → ℕ → ℕ
page_at h n = (get_or h.pages n null_page_id).0

abbrev pub slot_of : Bank → PS → ℕ → Slot
slot_of b ps k = numbered (no_slot b) ps k

pub record Live (c : ℕ) (h : Header) : Type 0 where
  pub used : h.used ≡ true
  pub until : c < h.expires

-- header i of the tables
abbrev pub LiveAt : Tables → ℕ → Type 0
LiveAt t i = Live (clock_of t) (header_at t.hs i)

abbrev pub page_in : Tables → ℕ → ℕ → ℕ
page_in t i n = page_at (header_at t.hs i) n

pub record InUse (b : Bank) (c : Control) (h : Header) : Type 0 where
  pub id_low : 1 ≤ h.id.0
  pub id_high : h.id.0 < c.next
  pub made : h.created ≤ h.updated
  pub past : h.updated ≤ c.clock
  pub ends : h.updated ≤ h.expires
  pub sixteen : length h.pages ≡ 16
  pub small : (n : ℕ) → page_at h n ≤ b.slots

-- S2 of one header
pub record HeaderFacts (b : Bank) (c : Control) (h : Header) : Type 0 where
  pub blank : h.used ≡ false → zero_header h ≡ true
  pub full : h.used ≡ true → InUse b c h

-- S4 of one slot, for a live header that expires at e
pub record Backs (s : Slot) (e : ℕ) : Type 0 where
  pub used : s.used ≡ true
  pub long : e ≤ s.expires

-- S4 of one header; then S2's "shared with no other" and S5, of the headers numbered i and j
abbrev pub Backed : Bank → ℕ → PS → Header → Type 0
Backed b c ps h = Live c h → (n : ℕ) → page_at h n ≢ 0 → Backs (slot_of b ps (page_at h n)) h.expires

abbrev pub IdOnce : ℕ → ℕ → Header → Header → Type 0
IdOnce i j g h = g.used ≡ true → h.used ≡ true → g.id.0 ≡ h.id.0 → i ≡ j

abbrev pub PageOnce : ℕ → ℕ → ℕ → Header → Header → Type 0
PageOnce c i j g h = Live c g → Live c h → (n m : ℕ) → page_at g n ≢ 0 → page_at g n ≡ page_at h m → (i ≡ j) × (n ≡ m)

-- S1 is next_low, next_high and spare; S2 header and ids; S3 slot; S4 backed; S5 once. There are as many slots as the bank has.
pub record Facts (b : Bank) (t : Tables) : Type 0 where
  pub count : length t.ps ≡ b.slots
  pub next_low : 1 ≤ t.hs.control.next
  pub next_high : t.hs.control.next ≤ no_more_ids
  pub spare : t.hs.spare ≡ 0
  pub header : (n : ℕ) → HeaderFacts b t.hs.control (header_at t.hs n)
  pub slot : (k : ℕ) → slot_sound (slot_of b t.ps k) ≡ true
  pub ids : (i j : ℕ) → IdOnce i j (header_at t.hs i) (header_at t.hs j)
  pub backed : (i : ℕ) → Backed b (clock_of t) t.ps (header_at t.hs i)
  pub once : (i j : ℕ) → PageOnce (clock_of t) i j (header_at t.hs i) (header_at t.hs j)

module _ (c : ℕ) (h : Header) where
  pub live_facts : live c h ≡ true → Live c h
  live_facts e = let p = both h.used (ltb c h.expires) e in record { used = p.0; until = ltb-true c h.expires p.1 }

  pub live_test : Live c h → live c h ≡ true
  live_test l = rw (l.used, lt-ltb c h.expires l.until)

pub not_live : (c : ℕ) → Live c no_header → ⊥
not_live c l = true≢false (sym l.used)

-- a header in use stands in the table
pub used_in : (t : Tables) (n : ℕ) → (header_at t.hs n).used ≡ true → (1 ≤ n) × (n ≤ length t.hs.headers)
used_in t n = numbered_in no_header t.hs.headers (λ h. h.used ≡ true) n (λ e. true≢false (sym e))
