-- What the control record says of S1, a slot's first word and zero bytes of S3, and a slot's head of S4.
-- Assumes nothing.
use Prim.Native.Nat.{ℕ, ◌+◌, ◌-◌, ◌*◌, ◌/◌, ◌%◌, ◌≤◌, ◌<◌}
use mathlib.Core.Path.{◌≡◌, refl, sym, ap, ap₂, ◌∙◌}
use mathlib.Core.Bool.{Bool, true, false, ◌&&◌, cond}
use mathlib.Core.List.{List}
use mathlib.Core.Logic.{◌⊎◌, inl, inr}
use native.Mathlib.Omega.{arith}
use borrow.Author.Tests.{le-leb, lt-leb, eq-eqb, ne_eqb, eqb-true}
use lib.Dec.{eqb, leb}
use lib.ListN.{length, take, drop, length-drop}
use lib.Seq.{length-take-le, take-add, drop_at}
use Rattle.bits.specs.Field.{field, Bytes}
use Rattle.bits.proofs.Cover.{bytes-take, bytes-drop, window}
use Rattle.paper.specs.declared.Bank.{Bank}
use Rattle.paper.specs.declared.PageId.{PageId}
use Rattle.paper.specs.declared.Control.{Control}
use Rattle.paper.specs.Ids.{no_more_ids, page_id}
use Rattle.paper.specs.Lists.{all, is_zero}
use Rattle.paper.specs.Tables.{Slot, PS, slot_at}
use Rattle.paper.specs.Sound.{s1, zero_slot, slot_sound}
use Rattle.paper.specs.Bytes.{is_one, headers_length, control_from, spare_from, slot_from, hs_from, ps_from}
use Rattle.records.specs.declared.SlotHead.{SlotHead}
use Rattle.records.specs.Fits.{head_of}
use Rattle.records.proofs.Read.{slot_fields, word_used, word_number}
use Rattle.records.proofs.Places.{slot_place}
use Rattle.records.proofs.Zeros.{zero_spare, zero_slot_lem}
use Rattle.stores.specs.Geometry.{Geometry}
use Rattle.stores.proofs.Slots.{slot_room}
use Rattle.sound.specs.Seen.{held_to}

-- S1 by the control record that was read
module _ (xs : List ℕ) (c : Control) (e : c ≡ control_from (take 36 xs)) where
  by_control : leb 1 c.next && leb c.next no_more_ids && is_zero (spare_from (take 36 xs)) ≡ s1 (hs_from xs)
  unfolding s1 hs_from
  by_control = ap (λ (q : Control). leb 1 q.next && leb q.next no_more_ids && is_zero (spare_from (take 36 xs))) e

  by_tests : (a b : Bool) → leb 1 c.next ≡ a → leb c.next no_more_ids ≡ b → a && b && is_zero (spare_from (take 36 xs)) ≡ s1 (hs_from xs)
  by_tests a b p q = ap₂ (λ (s t : Bool). s && t && is_zero (spare_from (take 36 xs))) (sym p) (sym q) ∙ by_control

  pub next_breaks : ((c.next ≡ 0 → ⊥) × (no_more_ids < c.next)) ⊎ (c.next ≡ 0) → s1 (hs_from xs) ≡ false
  next_breaks (inl h) = sym (by_tests true false (le-leb 1 c.next (omega arith)) (lt-leb c.next no_more_ids h.1))
  next_breaks (inr z) = sym (by_tests false (leb c.next no_more_ids) (lt-leb 1 c.next (omega arith)) refl)

  pub next_fits : Bytes xs → length xs ≡ headers_length → (c.next ≡ 0 → ⊥) × (c.next ≤ no_more_ids) → all is_zero (take 28 (drop 8 xs)) ≡ s1 (hs_from xs)
  next_fits b l h =
      let spare : drop 8 (take 36 xs) ≡ take 28 (drop 8 xs) =
      ap (drop 8) (take-add 8 28 xs) ∙ drop_at (take 8 xs) (take 28 (drop 8 xs)) 8 (length-take-le 8 xs (omega arith)) in
      sym (zero_spare (take 36 xs) (bytes-take 36 xs b) (length-take-le 36 xs (omega arith)) ∙ ap (all is_zero) spare)
      ∙ by_tests true true (le-leb 1 c.next (omega arith)) (le-leb c.next no_more_ids h.1)

-- the w bytes from index a on, as a loan of a to a + w has them
abbrev pub part : ℕ → ℕ → List ℕ → List ℕ
part a w xs = take (a + w - a) (drop a xs)

module _ (a w : ℕ) (xs : List ℕ) where
  pub part_is : part a w xs ≡ take w (drop a xs)
  part_is = let e : a + w - a ≡ w = omega arith in ap (λ (k : ℕ). take k (drop a xs)) e

  pub part_bytes : Bytes xs → Bytes (part a w xs)
  part_bytes b = bytes-take (a + w - a) (drop a xs) (bytes-drop a xs b)

  pub part_length : a + w ≤ length xs → length (part a w xs) ≡ w
  part_length h = ap length part_is ∙ length-take-le w (drop a xs) (omega (arith, length-drop a xs))

-- a slot's own bytes and their first word
module _ (xs : List ℕ) (b : Bytes xs) (l : 8 ≤ length xs) (w : ℕ) (e : w ≡ field 0 32 xs) where
  first_word : w ≡ field 0 32 (take 8 xs)
  first_word = e ∙ window 0 8 0 0 32 xs b l refl (omega arith)

  long : 4 ≤ length (take 8 xs)
  long = omega (arith, length-take-le 8 xs l)

  slot_used : is_one (w / 2147483648) ≡ (slot_from xs).used
  slot_used = word_used w (take 8 xs) long first_word ∙ ap (λ (s : Slot). s.used) (slot_fields xs l)

  slot_spare : w % 2147483648 ≡ (slot_from xs).spare
  slot_spare = word_number w (take 8 xs) long first_word ∙ ap (λ (s : Slot). s.spare) (slot_fields xs l)

  sound_in_use : w ≡ 2147483648 → true ≡ slot_sound (slot_from xs)
  unfolding slot_sound
  sound_in_use h =
      let u : (slot_from xs).used ≡ true = sym slot_used ∙ ap (λ (n : ℕ). is_one (n / 2147483648)) h in
      let z : (slot_from xs).spare ≡ 0 = sym slot_spare ∙ ap (λ (n : ℕ). n % 2147483648) h in
      rw (u, z)

  zero_not_in_use : (slot_from xs).used ≡ true → all is_zero xs ≡ false
  unfolding zero_slot
  zero_not_in_use u = sym (zero_slot_lem xs b l) ∙ rw u

  sound_otherwise : (w ≡ 2147483648 → ⊥) → all is_zero xs ≡ slot_sound (slot_from xs)
  unfolding slot_sound
  sound_otherwise ne = go (slot_from xs).used refl
    where
      go : (t : Bool) → (slot_from xs).used ≡ t → all is_zero xs ≡ cond t (is_zero (slot_from xs).spare) (zero_slot (slot_from xs))
      go true u =
          let one : w / 2147483648 ≡ 1 = eqb-true (w / 2147483648) 1 (slot_used ∙ u) in
          zero_not_in_use u ∙ sym (ne_eqb (slot_from xs).spare 0 (λ z. ne (omega (arith, slot_spare, one, z))))
      go false u = sym (zero_slot_lem xs b l)

-- slot n by its part of the table
module _ {b : Bank} {xs : List ℕ} (g : Geometry b xs) (bytes : Bytes xs) (n : ℕ) (lo : 1 ≤ n) (hi : n ≤ b.slots) where
  abbrev own : List ℕ
  own = part ((n - 1) * (8 + b.size)) (8 + b.size) xs

  own_long : 8 ≤ length own
  own_long = omega (arith, part_length ((n - 1) * (8 + b.size)) (8 + b.size) xs (slot_room g n lo hi))

  own_slot : slot_from own ≡ slot_at b (ps_from b xs) (page_id n)
  own_slot = ap slot_from (part_is ((n - 1) * (8 + b.size)) (8 + b.size) xs) ∙ sym (slot_place b xs n lo hi)

  module _ (w : ℕ) (e : w ≡ field 0 32 own) where
    pub slot_in_use : w ≡ 2147483648 → eqb w 2147483648 ≡ slot_sound (slot_at b (ps_from b xs) (page_id n))
    slot_in_use h = eq-eqb w 2147483648 h ∙ sound_in_use own (part_bytes ((n - 1) * (8 + b.size)) (8 + b.size) xs bytes) own_long w e h ∙ ap slot_sound own_slot

    pub slot_otherwise : (w ≡ 2147483648 → ⊥) → all is_zero own ≡ slot_sound (slot_at b (ps_from b xs) (page_id n))
    slot_otherwise h = sound_otherwise own (part_bytes ((n - 1) * (8 + b.size)) (8 + b.size) xs bytes) own_long w e h ∙ ap slot_sound own_slot

-- S4 for a page id, by the head of its slot
pub held_by_head : (b : Bank) (ps : PS) (e n : ℕ) (k : SlotHead) (t : Slot) → 1 ≤ n → k ≡ head_of t → slot_at b ps (page_id n) ≡ t
    → k.lease.used && leb e k.lease.expires ≡ held_to b ps e (page_id n)
unfolding held_to
held_by_head b ps e n k t lo head same =
    let nz : is_zero n ≡ false = ne_eqb n 0 (λ z. absurd (omega arith)) in
    rw (nz, same) (ap (λ (q : SlotHead). q.lease.used && leb e q.lease.expires) head)

pub held_null : (b : Bank) (ps : PS) (e : ℕ) (p : PageId) → p.0 ≡ 0 → held_to b ps e p ≡ true
unfolding held_to
held_null b ps e p z = let e : is_zero p.0 ≡ true = eq-eqb p.0 0 z in rw e
