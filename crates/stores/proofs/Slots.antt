-- A slot lies within its table, what a step leaves there, what a search finds, and the sweep of the slots.
-- Assumes nothing.
use Prim.Native.Nat.{ℕ, zero, suc, ◌+◌, ◌-◌, ◌*◌, ◌^◌, ◌<◌, ◌≤◌}
use mathlib.Core.Path.{◌≡◌, refl, sym, ap, ap₂, ◌∙◌}
use mathlib.Core.Bool.{true}
use mathlib.Core.List.{List, [], ◌∷◌, ◌++◌, append-nil}
use native.Mathlib.Nat.{mul-le-mul_right, suc-mul}
use native.Mathlib.Omega.{arith}
use lib.ListN.{length, take, drop, replicate, length-map, length-drop, length-replicate, replicate-append-replicate, drop_of_length-le}
use lib.Seq.{length-take-le, take-length}
use Rattle.bits.specs.Field.{pack, splice, Bytes}
use Rattle.bits.specs.Field.Within.{none, one}
use Rattle.bits.proofs.Within.{within_head, within_tail, within_test}
use Rattle.bits.proofs.Cover.{bytes-take, bytes-drop}
use Rattle.paper.specs.declared.Bank.{Bank}
use Rattle.std.specs.Prelude.{Some}
use Rattle.paper.specs.Ids.{page_id}
use Rattle.paper.specs.Lists.{lowest}
use Rattle.paper.specs.Tables.{Slot, no_slot, slot_free, slot_expired, slot_at, put_slot}
use Rattle.paper.specs.Stores.{gone, full_slot, expiring, create_page, destroy_page, set_page_expiry, scavenge_pages}
use Rattle.paper.specs.Bytes.{slot_layout, slot_size, slot_bytes, slot_from, parts, ps_from}
use Rattle.records.specs.Fits.{SlotFits}
use Rattle.records.proofs.Parts.{length_parts}
use Rattle.records.proofs.Records.{slot_fits}
use Rattle.records.proofs.Places.{slot_place, slot_put}
use Rattle.stores.specs.Geometry.{Geometry}
use Rattle.stores.proofs.Search.{lowest_within}
use Rattle.stores.proofs.Sweep.{Swept, starts, met_few, ends, passes}

module _ {b : Bank} {xs : List ℕ} (g : Geometry b xs) where
  pub slot_room : (n : ℕ) → 1 ≤ n → n ≤ b.slots → (n - 1) * (8 + b.size) + (8 + b.size) ≤ length xs
  slot_room zero lo hi = absurd (omega arith)
  slot_room (suc k) lo hi =
      let e : suc k - 1 ≡ k = omega arith in
      rw e (omega (arith, mul-le-mul_right (8 + b.size) hi, suc-mul k (8 + b.size), g.whole))

pub length_slots : (b : Bank) (xs : List ℕ) → length (ps_from b xs) ≡ b.slots
unfolding ps_from
length_slots b xs = length-map (parts (8 + b.size) b.slots xs) slot_from ∙ length_parts (8 + b.size) b.slots xs

-- what a step leaves, as records

zeros_bytes : (n : ℕ) → Bytes (replicate n 0)
zeros_bytes zero i = omega arith
zeros_bytes (suc n) zero = omega arith
zeros_bytes (suc n) (suc i) = zeros_bytes n i

pub no_slot_fits : (b : Bank) → SlotFits b (no_slot b)
no_slot_fits b = record {
  values = within_test slot_layout (0 ∷ 0 ∷ 0 ∷ []) tt;
  contents = zeros_bytes b.size;
  size = length-replicate b.size 0;
}

pub no_slot_bytes : (b : Bank) → slot_bytes (no_slot b) ≡ replicate (slot_size b) 0
unfolding slot_bytes pack
no_slot_bytes b = replicate-append-replicate 8 b.size 0

pub full_slot_fits : (b : Bank) (e : ℕ) (page : List ℕ) → e < 2 ^ 32 → Bytes page → length page ≡ b.size → SlotFits b (full_slot page e)
full_slot_fits b e page f bytes l =
    let used : 1 < 2 ^ 1 = omega arith in
    let spare : 0 < 2 ^ 31 = omega arith in
    record { values = one used (one spare (one f none)); contents = bytes; size = l }

pub expiring_fits : (b : Bank) (e : ℕ) (s : Slot) → e < 2 ^ 32 → SlotFits b s → SlotFits b (expiring e s)
expiring_fits b e s f fits = record {
  values = one (within_head fits.values) (one (within_head (within_tail fits.values)) (one f none));
  contents = fits.contents;
  size = fits.size;
}

module _ {b : Bank} {xs : List ℕ} (g : Geometry b xs) (n : ℕ) (lo : 1 ≤ n) (hi : n ≤ b.slots) where
  abbrev a : ℕ
  a = (n - 1) * (8 + b.size)

  -- put s: the bytes of slot s spliced in are slot s put there
  put : (s : Slot) → SlotFits b s → ps_from b (splice a (slot_bytes s) xs) ≡ put_slot (page_id n) s (ps_from b xs)
  put s f = slot_put b xs g.whole n lo hi s f

  pub zeroed : ps_from b (splice a (replicate (8 + b.size) 0) xs) ≡ put_slot (page_id n) (no_slot b) (ps_from b xs)
  zeroed = ap (λ (l : List ℕ). ps_from b (splice a l xs)) (sym (no_slot_bytes b)) ∙ put (no_slot b) (no_slot_fits b)

  length_part : length (take (8 + b.size) (drop a xs)) ≡ 8 + b.size
  length_part = length-take-le (8 + b.size) (drop a xs) (omega (arith, length-drop a xs, slot_room g n lo hi))

  pub length_contents : length (slot_from (take (8 + b.size) (drop a xs))).contents ≡ b.size
  unfolding slot_from
  length_contents = length-drop 8 (take (8 + b.size) (drop a xs)) ∙ omega (arith, length_part)

  -- a lent page as long as the contents, after they are copied over it
  pub copied : (page lent : List ℕ) → page ≡ (slot_from (take (8 + b.size) (drop a xs))).contents → length lent ≡ b.size
      → take (length page) page ++ drop (length page) lent ≡ (slot_at b (ps_from b xs) (page_id n)).contents
  copied page lent e l =
      let short : length lent ≤ length page = omega (arith, ap length e, length_contents) in
      rw (take-length, drop_of_length-le lent short, append-nil) (e ∙ ap (λ (s : Slot). s.contents) (sym (slot_place b xs n lo hi)))

  -- what each step that writes the slot leaves
  module _ {ys : List ℕ} where
    pub destroyed : ys ≡ splice a (replicate (8 + b.size) 0) xs → destroy_page b (page_id n) (ps_from b xs) ≡ gone n (ps_from b ys)
    unfolding destroy_page
    destroyed e = ap (gone n) (sym (ap (ps_from b) e ∙ zeroed))

    pub renewed : {e : ℕ} → ys ≡ splice a (slot_bytes (expiring e (slot_from (take (8 + b.size) (drop a xs))))) xs → e < 2 ^ 32 → Bytes xs
        → set_page_expiry b e (page_id n) (ps_from b xs) ≡ gone n (ps_from b ys)
    unfolding set_page_expiry
    renewed {e} written f bytes =
        let part = take (8 + b.size) (drop a xs) in
        ap (gone n)
        (ap (λ (s : Slot). put_slot (page_id n) (expiring e s) (ps_from b xs)) (slot_place b xs n lo hi)
        ∙ sym (ap (ps_from b) written ∙ put (expiring e (slot_from part)) (expiring_fits b e (slot_from part) f (slot_fits b part (bytes-take (8 + b.size) (drop a xs) (bytes-drop a xs bytes)) length_part))))

    pub created : (t : ℕ) (page : List ℕ) {e : ℕ} → lowest (slot_free t) (ps_from b xs) ≡ Some n → ys ≡ splice a (slot_bytes (full_slot page e)) xs → e < 2 ^ 32 → Bytes page → length page ≡ b.size
        → create_page t page e (ps_from b xs) ≡ gone n (ps_from b ys)
    unfolding create_page
    created t page {e} found written f bytes l = rw (create_page, found) (ap (gone n) (sym (ap (ps_from b) written ∙ put (full_slot page e) (full_slot_fits b e page f bytes l))))

-- the slot that a search found is one of the table
pub found_slot : (b : Bank) (time : ℕ) (xs : List ℕ) (n : ℕ) → lowest (slot_free time) (ps_from b xs) ≡ Some n → (1 ≤ n) × (n ≤ b.slots)
found_slot b time xs n h =
    let i = lowest_within (slot_free time) n (ps_from b xs) h in
    (i.0, omega (arith, length_slots b xs))

-- the sweep of the slots that xs holds has come to number n: the table is ys, and m were expired
abbrev pub SweptSlots : (b : Bank) (time : ℕ) (xs : List ℕ) (n : ℕ) (ys : List ℕ) (m : ℕ) → Type 0
SweptSlots b time xs n ys m = Swept (slot_expired time) (no_slot b) (ps_from b xs) n (ps_from b ys) m

module _ (b : Bank) (time : ℕ) (xs : List ℕ) where
  pub sweep_starts : SweptSlots b time xs 1 xs 0
  sweep_starts = starts (slot_expired time) (no_slot b) refl (ps_from b xs)

  module _ (n : ℕ) (ys : List ℕ) (m : ℕ) (i : SweptSlots b time xs n ys m) where
    pub few_swept : m ≤ b.slots
    few_swept = omega (arith, met_few i, length_slots b xs)

    pub swept_slots : b.slots < n → gone m (ps_from b ys) ≡ scavenge_pages b time (ps_from b xs)
    unfolding scavenge_pages
    swept_slots h = let e = ends i (omega (arith, length_slots b ys)) in ap₂ gone e.0 e.1

    pub sweep_passes : Geometry b ys → 1 ≤ n → n ≤ b.slots → {zs : List ℕ} → zs ≡ splice ((n - 1) * (8 + b.size)) (replicate (8 + b.size) 0) ys → slot_expired time (slot_at b (ps_from b ys) (page_id n)) ≡ true
        → SweptSlots b time xs (n + 1) zs (m + 1)
    sweep_passes g lo hi ez e = rw (ap (ps_from b) ez ∙ zeroed g n lo hi) (passes (slot_expired time) (no_slot b) refl i e)
