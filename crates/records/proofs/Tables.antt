-- The two tables whole: what is written is read back, what is read is written back, and what a table holds determines its bytes.
-- Assumes nothing.
use mathlib.Core.Path.{◌≡◌, sym, ap, ap₂, ◌∙◌}
use mathlib.Core.List.{List, ◌++◌, map}
use Prim.Native.Nat.{ℕ, ◌*◌}
use native.Mathlib.Omega.{arith}
use lib.ListN.{length, take, drop, length-drop, length-map, take-append-drop}
use lib.Seq.{length-take-le, take_at, drop_at}
use Rattle.bits.specs.Field.{Bytes}
use Rattle.bits.proofs.Cover.{bytes-take, bytes-drop}
use Rattle.paper.specs.declared.Bank.{Bank}
use Rattle.paper.specs.Tables.{HS, PS, Tables, header_slots}
use Rattle.paper.specs.Bytes.{record_size, slot_size, headers_length, pages_length, control_bytes, control_from, spare_from, header_bytes, header_from, slot_bytes, slot_from, parts, joined, hs_from, header_table, ps_from, page_table, tables_from}
use Rattle.records.specs.Fits.{HeaderFits, SlotFits, HSFits, PSFits}
use Rattle.records.proofs.Records.{same_written, control_read, control_written, control_fits, control_length, header_read, header_written, header_fits, header_length, slot_read, slot_written, slot_fits, slot_length}
use Rattle.records.proofs.Parts.{length_parts, parts_read, parts_written, parts_fit}

-- the header table

pub hs_read : (s : HS) → HSFits s → hs_from (header_table s) ≡ s
unfolding hs_from header_table
hs_read s f =
    let c = control_bytes s.control s.spare in
    let r = joined (map header_bytes s.headers) in
    let l : length c ≡ record_size = control_length s.control s.spare in
    let read : (control_from (take record_size (c ++ r)) ≡ s.control) × (spare_from (take record_size (c ++ r)) ≡ s.spare) =
    rw (take_at c r record_size l) (control_read s.control s.spare f.control) in
    let headers : map header_from (parts record_size header_slots (drop record_size (c ++ r))) ≡ s.headers =
    ap₂ (λ (n : ℕ) (q : List ℕ). map header_from (parts record_size n q)) (sym f.count) (drop_at c r record_size l)
    ∙ parts_read header_bytes header_from record_size HeaderFits (λ h p. header_length h) header_read f.headers in
    λ i. record { control = read.0 i; spare = read.1 i; headers = headers i }

pub length_headers : (xs : List ℕ) → length xs ≡ headers_length → length (drop record_size xs) ≡ header_slots * record_size
length_headers xs l = simp length-drop (omega arith)

module _ (xs : List ℕ) (b : Bytes xs) (l : length xs ≡ headers_length) where
  pub hs_written : header_table (hs_from xs) ≡ xs
  unfolding hs_from header_table
  hs_written =
      ap₂ (λ (p q : List ℕ). p ++ q)
      (control_written (take record_size xs) (bytes-take record_size xs b) (length-take-le record_size xs (omega arith)))
      (parts_written header_bytes header_from record_size header_written header_slots (drop record_size xs) (bytes-drop record_size xs b) (length_headers xs l))
      ∙ take-append-drop record_size xs

  pub hs_fits : HSFits (hs_from xs)
  unfolding hs_from
  hs_fits =
      let ps = parts record_size header_slots (drop record_size xs) in
      record {
        control = control_fits (take record_size xs);
        headers = parts_fit header_from record_size HeaderFits (λ p bp lp. header_fits p) header_slots (drop record_size xs) (bytes-drop record_size xs b) (length_headers xs l);
        count = length-map ps header_from ∙ length_parts record_size header_slots (drop record_size xs);
      }

pub hs_same : (xs ys : List ℕ) → Bytes xs → Bytes ys → length xs ≡ headers_length → length ys ≡ headers_length → hs_from xs ≡ hs_from ys → xs ≡ ys
hs_same xs ys bx by lx ly e = same_written header_table hs_from (hs_written xs bx lx) (hs_written ys by ly) e

-- the page table

module _ (b : Bank) where
  pub ps_read : (ps : PS) → PSFits b ps → ps_from b (page_table ps) ≡ ps
  unfolding ps_from page_table
  ps_read ps f =
      ap (λ (n : ℕ). map slot_from (parts (slot_size b) n (joined (map slot_bytes ps)))) (sym f.count)
      ∙ parts_read slot_bytes slot_from (slot_size b) (SlotFits b) (slot_length b) (slot_read b) f.slots

  pub ps_written : (xs : List ℕ) → Bytes xs → length xs ≡ pages_length b → page_table (ps_from b xs) ≡ xs
  unfolding ps_from page_table
  ps_written = parts_written slot_bytes slot_from (slot_size b) (slot_written b) b.slots

  pub ps_same : (xs ys : List ℕ) → Bytes xs → Bytes ys → length xs ≡ pages_length b → length ys ≡ pages_length b → ps_from b xs ≡ ps_from b ys → xs ≡ ys
  ps_same xs ys bx by lx ly e = same_written page_table (ps_from b) (ps_written xs bx lx) (ps_written ys by ly) e

  pub ps_fits : (xs : List ℕ) → Bytes xs → length xs ≡ pages_length b → PSFits b (ps_from b xs)
  unfolding ps_from
  ps_fits xs bx l = record {
    slots = parts_fit slot_from (slot_size b) (SlotFits b) (slot_fits b) b.slots xs bx l;
    count = length-map (parts (slot_size b) b.slots xs) slot_from ∙ length_parts (slot_size b) b.slots xs;
  }

  pub tables_same : (hx hy px py : List ℕ) → Bytes hx → Bytes hy → Bytes px → Bytes py → length hx ≡ headers_length → length hy ≡ headers_length → length px ≡ pages_length b
      → length py ≡ pages_length b → tables_from b hx px ≡ tables_from b hy py → (hx ≡ hy) × (px ≡ py)
  tables_same hx hy px py bhx bhy bpx bpy lhx lhy lpx lpy e =
      (hs_same hx hy bhx bhy lhx lhy (ap (λ (t : Tables). t.hs) e), ps_same px py bpx bpy lpx lpy (ap (λ (t : Tables). t.ps) e))
