-- One record in its table: the bytes that it is read from, and the record put where its bytes are.
-- Assumes nothing.
use mathlib.Core.Path.{◌≡◌, refl, ap, ◌∙◌}
use mathlib.Core.List.{List, map}
use Prim.Native.Nat.{ℕ, zero, suc, ◌+◌, ◌-◌, ◌*◌, ◌≤◌}
use native.Mathlib.Omega.{arith}
use lib.ListN.{length, take, drop, set}
use lib.Seq.{drop-drop}
use Rattle.bits.specs.Field.{splice}
use Rattle.paper.specs.declared.Bank.{Bank}
use Rattle.paper.specs.declared.Control.{Control}
use Rattle.paper.specs.declared.Header.{Header}
use Rattle.paper.specs.Ids.{page_id}
use Rattle.paper.specs.Lists.{numbered, put_at}
use Rattle.paper.specs.Tables.{Slot, no_header, no_slot, header_slots, header_at, slot_at, put_header, with_control, put_slot}
use Rattle.paper.specs.Bytes.{slot_size, headers_length, pages_length, control_bytes, control_from, spare_from, header_bytes, header_from, slot_bytes, slot_from, parts, hs_from, ps_from}
use Rattle.records.specs.Fits.{ControlFits, HeaderFits, SlotFits}
use Rattle.records.proofs.Records.{control_read, control_length, header_read, header_length, slot_read, slot_length}
use Rattle.records.proofs.Parts.{splice_first, splice_later, part_at, part_put}
use Rattle.records.proofs.Tables.{length_headers}

pub control_place : (xs : List ℕ) → control_from (take 36 xs) ≡ (hs_from xs).control
unfolding hs_from
control_place xs = refl

pub control_put : (xs : List ℕ) (c : Control) → ControlFits c (hs_from xs).spare
    → hs_from (splice 0 (control_bytes c (spare_from (take 36 xs))) xs) ≡ with_control c (hs_from xs)
unfolding hs_from
control_put xs c f =
    let s = spare_from (take 36 xs) in
    let ys = control_bytes c s in
    let placed = splice_first 36 ys xs (control_length c s) in
    let read : (control_from (take 36 (splice 0 ys xs)) ≡ c) × (spare_from (take 36 (splice 0 ys xs)) ≡ s) = rw placed.0 (control_read c s f) in
    λ i. record { control = read.0 i; spare = read.1 i; headers = map header_from (parts 36 header_slots (placed.1 i)) }

pub header_place : (xs : List ℕ) (n : ℕ) → 1 ≤ n → n ≤ header_slots → header_at (hs_from xs) n ≡ header_from (take 36 (drop (n * 36) xs))
unfolding hs_from numbered
header_place xs zero lo hi = absurd (omega arith)
header_place xs (suc i) lo hi =
    let e : suc i * 36 ≡ 36 + i * 36 = omega arith in
    rw (e, ← drop-drop (i * 36) 36 xs) (part_at header_from 36 header_slots i (drop 36 xs) no_header hi)

pub header_put : (xs : List ℕ) → length xs ≡ headers_length → (n : ℕ) → 1 ≤ n → n ≤ header_slots → (h : Header) → HeaderFits h
    → hs_from (splice (n * 36) (header_bytes h) xs) ≡ put_header n h (hs_from xs)
unfolding hs_from put_at
header_put xs l zero lo hi h f = absurd (omega arith)
header_put xs l (suc i) lo hi h f =
    let ys = header_bytes h in
    let placed = splice_later 36 (i * 36) (suc i * 36) ys xs (omega arith) (omega arith) in
    let headers : map header_from (parts 36 header_slots (drop 36 (splice (suc i * 36) ys xs))) ≡ set (map header_from (parts 36 header_slots (drop 36 xs))) i h =
    ap (λ (r : List ℕ). map header_from (parts 36 header_slots r)) placed.1 ∙ part_put header_from 36 header_slots i ys (drop 36 xs) hi (length_headers xs l) (header_length h) (header_read h f) in
    λ j. record { control = control_from (placed.0 j); spare = spare_from (placed.0 j); headers = headers j }

module _ (b : Bank) (xs : List ℕ) where
  pub slot_place : (n : ℕ) → 1 ≤ n → n ≤ b.slots → slot_at b (ps_from b xs) (page_id n) ≡ slot_from (take (slot_size b) (drop ((n - 1) * slot_size b) xs))
  unfolding ps_from numbered
  slot_place zero lo hi = absurd (omega arith)
  slot_place (suc i) lo hi = let e : suc i - 1 ≡ i = omega arith in rw e (part_at slot_from (slot_size b) b.slots i xs (no_slot b) hi)

  pub slot_put : length xs ≡ pages_length b → (n : ℕ) → 1 ≤ n → n ≤ b.slots → (s : Slot) → SlotFits b s
      → ps_from b (splice ((n - 1) * slot_size b) (slot_bytes s) xs) ≡ put_slot (page_id n) s (ps_from b xs)
  unfolding ps_from put_at
  slot_put l zero lo hi s f = absurd (omega arith)
  slot_put l (suc i) lo hi s f =
      let e : suc i - 1 ≡ i = omega arith in
      rw e (part_put slot_from (slot_size b) b.slots i (slot_bytes s) xs hi l (slot_length b s f) (slot_read b s f))
