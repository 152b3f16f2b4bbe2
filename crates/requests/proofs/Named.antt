-- In sound tables every page id of every header names a slot of the bank, or none.
-- Assumes nothing.
use Prim.Native.Nat.{ℕ, zero, suc, ◌*◌, ◌≤◌}
use mathlib.Core.Path.{◌≡◌, ◌∙◌}
use mathlib.Core.Bool.{Bool, true, false, cond}
use mathlib.Core.List.{List, [], ◌∷◌}
use native.Mathlib.Omega.{arith}
use borrow.Author.Tests.{leb-true, le-leb, eqb-true}
use lib.Dec.{leb}
use lib.ListN.{length, get_or, take, drop}
use Rattle.paper.specs.declared.Bank.{Bank}
use Rattle.paper.specs.declared.PageId.{PageId}
use Rattle.paper.specs.declared.PageNum.{PageNum}
use Rattle.paper.specs.declared.Control.{Control}
use Rattle.paper.specs.declared.Header.{Header}
use Rattle.paper.specs.Ids.{null_page_id}
use Rattle.paper.specs.Lists.{all, numbered, is_zero}
use Rattle.paper.specs.Tables.{HS, Tables, header_slots, header_at, no_header, get_page_id}
use Rattle.paper.specs.Sound.{s2, sound, zero_header, good_header, header_sound}
use Rattle.paper.specs.Bytes.{header_from, hs_from}
use Rattle.stores.specs.declared.slot.HeaderSlot.{HeaderSlot}
use Rattle.stores.proofs.HeaderSlots.{slots as header-slots}
use Rattle.requests.specs.Seen.{SoundTables, Opened}
use Rattle.rows.specs.Standing.{named}
use Rattle.rows.specs.Rows.{clocked}
use Rattle.paper.proofs.Tests.{left, right, all_more, all_at}
use Rattle.requests.proofs.Conditions.{at_slot}

zero_named : (n : ℕ) (p : PageId) → is_zero p.0 ≡ true → leb p.0 n ≡ true
zero_named n p e = le-leb p.0 n (omega (arith, eqb-true p.0 0 e))

good_named : (b : Bank) (c : Control) (h : Header) → good_header b c h ≡ true → named b.slots h.pages ≡ true
unfolding good_header
good_named b c h e = search right

none_named : (n : ℕ) (h : Header) → zero_header h ≡ true → named n h.pages ≡ true
unfolding zero_header
none_named n h e =
    let zeros : all (λ (p : PageId). is_zero p.0) h.pages ≡ true = search right in
    all_more (λ (p : PageId). is_zero p.0) (λ (p : PageId). leb p.0 n) (zero_named n) h.pages zeros

sound_named : (b : Bank) (c : Control) (h : Header) → header_sound b c h ≡ true → named b.slots h.pages ≡ true
unfolding header_sound
sound_named b c h e = go h.used e
  where
    go : (u : Bool) → cond u (good_header b c h) (zero_header h) ≡ true → named b.slots h.pages ≡ true
    go true e = good_named b c h e
    go false e = none_named b.slots h e

all_sound : (b : Bank) (t : Tables) → sound b t ≡ true → all (header_sound b t.hs.control) t.hs.headers ≡ true
unfolding sound s2
all_sound b t e = search (left, right)

-- setting the clock changes no header
pub pages_named : (b : Bank) (n : ℕ) (headers pages : List ℕ) (time : ℕ) (hs : HS) → SoundTables b headers pages → hs ≡ clocked time (hs_from headers) → 1 ≤ n → n ≤ header_slots
    → named b.slots (header_at hs n).pages ≡ true
unfolding numbered
pages_named b zero headers pages time hs s e lo hi = absurd (omega arith)
pages_named b (suc k) headers pages time hs s e lo hi =
    rw e
    (all_at (λ (h : Header). named b.slots h.pages) no_header k (hs_from headers).headers
    (all_more (header_sound b (hs_from headers).control) (λ (h : Header). named b.slots h.pages) (sound_named b (hs_from headers).control)
    (hs_from headers).headers (all_sound b _ s.sound))
    (omega (arith, header-slots headers)))

-- the header table is ys once the clock is set, and slot s of it was found
pub opens : (b : Bank) (s : HeaderSlot) (headers ys pages os : List ℕ) (time : ℕ) → SoundTables b headers pages → length os ≡ 18 → length ys ≡ length headers → hs_from ys ≡ clocked time (hs_from headers)
    → Opened b s ys pages os
opens b s headers ys pages os time t l k e = record {
  geometry = t.geometry;
  whole = k ∙ t.whole;
  named = pages_named b s.number headers pages time (hs_from ys) t e s.within.0 s.within.1;
  steps = l;
}

pub page_named : (slots k : ℕ) (ps : List PageId) → named slots ps ≡ true → (get_or ps k null_page_id).0 ≤ slots
page_named slots k [] e = omega arith
page_named slots zero (p ∷ ps) e = leb-true p.0 slots (left (leb p.0 slots) (named slots ps) e)
page_named slots (suc k) (p ∷ ps) e = page_named slots k ps (right (leb p.0 slots) (named slots ps) e)

-- so it is of a header that was read, and of each of its pages
pub read_named : (b : Bank) (s : HeaderSlot) (headers pages os : List ℕ) (h : Header) → Opened b s headers pages os → h ≡ header_from (take 36 (drop (s.number * 36) headers)) → named b.slots h.pages ≡ true
read_named b s headers pages os h o e = rw (at_slot headers s h e) o.named

pub page_read_named : (b : Bank) (s : HeaderSlot) (headers pages os : List ℕ) (h : Header) (number : PageNum) (p : PageId) → Opened b s headers pages os
    → h ≡ header_from (take 36 (drop (s.number * 36) headers)) → p ≡ get_page_id h number → p.0 ≤ b.slots
page_read_named b s headers pages os h number p o e ep = rw ep (page_named b.slots number.0 h.pages (read_named b s headers pages os h o e))
