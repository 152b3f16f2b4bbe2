-- What a record's bytes hold, field by field: what the code reads.
-- Assumes nothing.
use Prim.Native.Nat.{ℕ, ◌+◌, ◌*◌, ◌/◌, ◌%◌, ◌<◌, ◌≤◌}
use mathlib.Core.Path.{◌≡◌, refl, sym, ap, ap₂, ◌∙◌}
use mathlib.Core.Bool.{Bool, true, false, ◌&&◌, and-false}
use mathlib.Core.List.{List, map}
use native.Mathlib.Omega.{arith}
use lib.ListN.{length, get_or, take, drop, get_or-map}
use lib.Seq.{length-take-le}
use lib.Dec.{eqb}
use borrow.Author.Tests.{eq-eqb, ne_eqb, eqb-true, eqb-false}
use Rattle.bits.specs.Field.{field, nines}
use Rattle.bits.proofs.Fields.{fields, fields_unpack, get_or-fields, field_first, field_last}
use Rattle.paper.specs.declared.FileId.{FileId}
use Rattle.paper.specs.declared.PageId.{PageId}
use Rattle.paper.specs.Ids.{page_id}
use Rattle.paper.specs.Bytes.{is_one, control_layout, control_of, control_from, header_layout, header_of, header_from, slot_layout, slot_of, slot_from}
use Rattle.records.specs.Fits.{in_use_as}

pub control_fields : (xs : List ℕ) → length xs ≡ 36 → control_of (fields 0 control_layout xs) ≡ control_from xs
unfolding control_from
control_fields xs l = ap control_of (fields_unpack 0 control_layout xs (omega arith))

pub header_fields : (xs : List ℕ) → length xs ≡ 36 → header_of (fields 0 header_layout xs) ≡ header_from xs
unfolding header_from
header_fields xs l = ap header_of (fields_unpack 0 header_layout xs (omega arith))

pub slot_fields : (xs : List ℕ) → 8 ≤ length xs → slot_of (fields 0 slot_layout (take 8 xs)) (drop 8 xs) ≡ slot_from xs
unfolding slot_from
slot_fields xs h =
    let l : length (take 8 xs) ≡ 8 = length-take-le 8 xs h in
    ap (λ (vs : List ℕ). slot_of vs (drop 8 xs)) (fields_unpack 0 slot_layout (take 8 xs) (omega arith))

-- in use and a 31-bit number share a word
pub word_used : (n : ℕ) (xs : List ℕ) → 4 ≤ length xs → n ≡ field 0 32 xs → is_one (n / 2147483648) ≡ is_one (field 0 1 xs)
word_used n xs h e = ap (λ (m : ℕ). is_one (m / 2147483648)) e ∙ ap is_one (field_first 0 1 31 xs (omega arith))

pub word_number : (n : ℕ) (xs : List ℕ) → 4 ≤ length xs → n ≡ field 0 32 xs → n % 2147483648 ≡ field 1 31 xs
word_number n xs h e = ap (λ (m : ℕ). m % 2147483648) e ∙ field_last 0 1 31 xs (omega arith)

-- the page ids of a header record
abbrev pub pages_in : List ℕ → List PageId
pages_in xs = map page_id (fields 144 nines xs)

pub page_at_lem : (xs : List ℕ) (k : ℕ) → k < 16 → page_id (field (8 * 18 + 9 * k) 9 xs) ≡ get_or (pages_in xs) k (page_id 0)
page_at_lem xs k h = sym (get_or-map page_id (fields 144 nines xs) k 0 ∙ ap page_id (get_or-fields 16 9 144 k xs h))

-- the first word of a header record as a whole: 2^31 and its id where it is in use under it
module _ (xs : List ℕ) (l : length xs ≡ 36) (id : FileId) where
  by_parts : (n : ℕ) → n ≡ field 0 32 xs → is_one (n / 2147483648) && eqb (n % 2147483648) id.0 ≡ in_use_as id (header_from xs)
  by_parts n e =
      ap₂ (λ (u : Bool) (m : ℕ). u && eqb m id.0) (word_used n xs (omega arith) e) (word_number n xs (omega arith) e) ∙ ap (in_use_as id) (header_fields xs l)

  pub large_unused : 2147483647 < id.0 → false ≡ in_use_as id (header_from xs)
  large_unused h =
      let n = field 0 32 xs in
      sym (and-false (is_one (n / 2147483648))) ∙ ap (λ (b : Bool). is_one (n / 2147483648) && b) (sym (ne_eqb (n % 2147483648) id.0 (λ z. absurd (omega arith)))) ∙ by_parts n refl

  pub whole_word : (n : ℕ) → n ≡ field 0 32 xs → id.0 ≤ 2147483647 → eqb n (2147483648 + id.0) ≡ in_use_as id (header_from xs)
  whole_word n e h = go (eqb n (2147483648 + id.0)) refl ∙ by_parts n e
    where
      other : (b : Bool) → is_one (n / 2147483648) ≡ b → (n ≡ 2147483648 + id.0 → ⊥) → false ≡ b && eqb (n % 2147483648) id.0
      other false u ne = refl
      other true u ne = let one = eqb-true (n / 2147483648) 1 u in sym (ne_eqb (n % 2147483648) id.0 (λ z. ne (omega arith)))

      go : (b : Bool) → eqb n (2147483648 + id.0) ≡ b → eqb n (2147483648 + id.0) ≡ is_one (n / 2147483648) && eqb (n % 2147483648) id.0
      go true p =
          let same = eqb-true n (2147483648 + id.0) p in
          p ∙ ap₂ (λ (u i : Bool). u && i) (sym (eq-eqb (n / 2147483648) 1 (omega arith))) (sym (eq-eqb (n % 2147483648) id.0 (omega arith)))
      go false p = p ∙ other (is_one (n / 2147483648)) refl (eqb-false n (2147483648 + id.0) p)
