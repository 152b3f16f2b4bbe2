-- The three records: what is written is read back, and what is read is written back.
-- Assumes nothing.
use mathlib.Core.Path.{◌≡◌, refl, sym, ap, ap₂, ◌∙◌, subst}
use mathlib.Core.List.{List, ◌++◌}
use Prim.Native.Nat.{ℕ, ◌+◌, ◌*◌}
use native.Mathlib.Omega.{arith}
use lib.ListN.{length, take, drop, length-append, length-drop, take-append-drop}
use lib.Seq.{length-take-le, take_at, drop_at}
use Rattle.bits.specs.Field.{total, pack, unpack, Within, Bytes}
use Rattle.bits.proofs.Layouts.{unpack_within, length_pack, unpack_pack, pack_unpack}
use Rattle.bits.proofs.Cover.{bytes-take, bytes-drop}
use Rattle.paper.specs.declared.Bank.{Bank}
use Rattle.paper.specs.declared.Control.{Control}
use Rattle.paper.specs.declared.Header.{Header}
use Rattle.paper.specs.Tables.{Slot}
use Rattle.paper.specs.Bytes.{slot_size, control_layout, control_values, control_of, spare_of, control_bytes, control_from, spare_from, header_layout, header_values, header_of, header_bytes, header_from, slot_layout, slot_values, slot_of, slot_bytes, slot_from}
use Rattle.records.specs.Fits.{ControlFits, HeaderFits, SlotFits}
use Rattle.records.proofs.Values.{values_of_control, header_of_values, values_of_header, slot_of_values, values_of_slot}

-- Bytes that are written back as they were are the same where what they hold is.
pub same_written : {A : Type 0} (of : A → List ℕ) (from : List ℕ → A) {xs ys : List ℕ} → of (from xs) ≡ xs → of (from ys) ≡ ys → from xs ≡ from ys → xs ≡ ys
same_written of from p q e = sym p ∙ ap of e ∙ q

-- Where a record has again the values that it was read from, it is written back as it was.
module _ (ws : List ℕ) {again : List ℕ → List ℕ} (back : (vs : List ℕ) → Within ws vs → again vs ≡ vs) where
  fits_again : (xs : List ℕ) → Within ws (again (unpack ws xs))
  fits_again xs = subst (Within ws) (sym (back (unpack ws xs) (unpack_within ws xs))) (unpack_within ws xs)

  written_again : (k : ℕ) → total ws ≡ 8 * k → (xs : List ℕ) → Bytes xs → length xs ≡ k → pack ws (again (unpack ws xs)) ≡ xs
  written_again k whole xs b l = ap (pack ws) (back (unpack ws xs) (unpack_within ws xs)) ∙ pack_unpack ws k whole xs b l

-- the control record

pub control_read : (c : Control) (spare : ℕ) → ControlFits c spare → (control_from (control_bytes c spare) ≡ c) × (spare_from (control_bytes c spare) ≡ spare)
unfolding control_from spare_from control_bytes
control_read c spare f =
    let e : unpack control_layout (pack control_layout (control_values c spare)) ≡ control_values c spare = unpack_pack control_layout 36 refl (control_values c spare) f in
    (ap control_of e, ap spare_of e)

pub control_written : (xs : List ℕ) → Bytes xs → length xs ≡ 36 → control_bytes (control_from xs) (spare_from xs) ≡ xs
unfolding control_from spare_from control_bytes
control_written = written_again control_layout values_of_control 36 refl

pub control_fits : (xs : List ℕ) → ControlFits (control_from xs) (spare_from xs)
unfolding control_from spare_from
control_fits = fits_again control_layout values_of_control

pub control_length : (c : Control) (spare : ℕ) → length (control_bytes c spare) ≡ 36
unfolding control_bytes
control_length c spare = length_pack control_layout 36 refl (control_values c spare)

-- the header record

pub header_read : (h : Header) → HeaderFits h → header_from (header_bytes h) ≡ h
unfolding header_from header_bytes
header_read h f = ap header_of (unpack_pack header_layout 36 refl (header_values h) f) ∙ header_of_values h

pub header_written : (xs : List ℕ) → Bytes xs → length xs ≡ 36 → header_bytes (header_from xs) ≡ xs
unfolding header_from header_bytes
header_written = written_again header_layout values_of_header 36 refl

pub header_same : (xs ys : List ℕ) → Bytes xs → Bytes ys → length xs ≡ 36 → length ys ≡ 36 → header_from xs ≡ header_from ys → xs ≡ ys
header_same xs ys bx by lx ly e = same_written header_bytes header_from (header_written xs bx lx) (header_written ys by ly) e

pub header_fits : (xs : List ℕ) → HeaderFits (header_from xs)
unfolding header_from
header_fits = fits_again header_layout values_of_header

pub header_length : (h : Header) → length (header_bytes h) ≡ 36
unfolding header_bytes
header_length h = length_pack header_layout 36 refl (header_values h)

-- the page slot

head_length : (s : Slot) → length (pack slot_layout (slot_values s)) ≡ 8
head_length s = length_pack slot_layout 8 refl (slot_values s)

pub slot_read : (b : Bank) (s : Slot) → SlotFits b s → slot_from (slot_bytes s) ≡ s
unfolding slot_from slot_bytes
slot_read b s f =
    let hs = pack slot_layout (slot_values s) in
    ap₂ (λ (p q : List ℕ). slot_of (unpack slot_layout p) q) (take_at hs s.contents 8 (head_length s)) (drop_at hs s.contents 8 (head_length s))
    ∙ ap (λ (vs : List ℕ). slot_of vs s.contents) (unpack_pack slot_layout 8 refl (slot_values s) f.values)
    ∙ slot_of_values s

pub slot_written : (b : Bank) (xs : List ℕ) → Bytes xs → length xs ≡ slot_size b → slot_bytes (slot_from xs) ≡ xs
unfolding slot_from slot_bytes
slot_written b xs bx l =
    ap (λ (p : List ℕ). p ++ drop 8 xs)
    (written_again slot_layout (values_of_slot (drop 8 xs)) 8 refl (take 8 xs) (bytes-take 8 xs bx) (length-take-le 8 xs (omega arith)))
    ∙ take-append-drop 8 xs

pub slot_same : (b : Bank) (xs ys : List ℕ) → Bytes xs → Bytes ys → length xs ≡ slot_size b → length ys ≡ slot_size b → slot_from xs ≡ slot_from ys → xs ≡ ys
slot_same b xs ys bx by lx ly e = same_written slot_bytes slot_from (slot_written b xs bx lx) (slot_written b ys by ly) e

pub slot_fits : (b : Bank) (xs : List ℕ) → Bytes xs → length xs ≡ slot_size b → SlotFits b (slot_from xs)
unfolding slot_from
slot_fits b xs bx l = record {
  values = fits_again slot_layout (values_of_slot (drop 8 xs)) (take 8 xs);
  contents = bytes-drop 8 xs bx;
  size = simp length-drop (omega arith);
}

pub slot_long : (s : Slot) → length (slot_bytes s) ≡ 8 + length s.contents
unfolding slot_bytes
slot_long s = simp length-append (omega (arith, head_length s))

pub slot_length : (b : Bank) (s : Slot) → SlotFits b s → length (slot_bytes s) ≡ slot_size b
slot_length b s f = omega (arith, slot_long s, f.size)
