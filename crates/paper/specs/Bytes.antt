-- The two tables as bytes: the three records by their layouts, and whole tables, read and written.
use Rattle.std.specs.Prelude.{ℕ, zero, suc, ◌+◌, ◌*◌, Bool, true, false, List, [], ◌∷◌, ◌++◌, map, take, drop, get_or, eqb}
use Rattle.bits.specs.Field.{pack, unpack, nines}
use Rattle.paper.specs.declared.Bank.{Bank}
use Rattle.paper.specs.declared.PageId.{PageId}
use Rattle.paper.specs.declared.Control.{Control}
use Rattle.paper.specs.declared.Header.{Header}
use Rattle.paper.specs.Ids.{file_id, page_id}
use Rattle.paper.specs.Tables.{Slot, HS, PS, Tables, header_slots}

abbrev pub bit : Bool → ℕ
bit true = 1
bit false = 0

abbrev pub is_one : ℕ → Bool
is_one n = eqb n 1

-- Control record, 36 bytes: next id 32 bits, clock 32, then 224 zero bits
abbrev pub control_layout : List ℕ
control_layout = 32 ∷ 32 ∷ 224 ∷ []

-- Header record, 36 bytes: in use 1, id 31, owner 16, created 32, updated 32, expires 32, sixteen page ids of 9 bits
abbrev pub header_layout : List ℕ
header_layout = 1 ∷ 31 ∷ 16 ∷ 32 ∷ 32 ∷ 32 ∷ nines

-- Page slot: in use 1, zero 31, expires 32, then the contents
abbrev pub slot_layout : List ℕ
slot_layout = 1 ∷ 31 ∷ 32 ∷ []

abbrev pub record_size : ℕ
record_size = 36

abbrev pub slot_size : Bank → ℕ
slot_size b = 8 + b.size

-- header table 2,340 bytes
abbrev pub headers_length : ℕ
headers_length = record_size + header_slots * record_size

-- page table 32,768
abbrev pub pages_length : Bank → ℕ
pages_length b = b.slots * slot_size b

-- the values of each record, in its layout's order, and the record of such values
abbrev pub control_values : Control → ℕ → List ℕ
control_values c spare = c.next ∷ c.clock ∷ spare ∷ []

abbrev pub control_of : List ℕ → Control
control_of vs = record { next = get_or vs 0 0; clock = get_or vs 1 0 }

abbrev pub spare_of : List ℕ → ℕ
spare_of vs = get_or vs 2 0

abbrev pub ids_of : List PageId → List ℕ
ids_of ps = map (λ (p : PageId). p.0) ps

abbrev pub header_values : Header → List ℕ
header_values h = bit h.used ∷ h.id.0 ∷ h.owner ∷ h.created ∷ h.updated ∷ h.expires ∷ ids_of h.pages

abbrev pub header_of : List ℕ → Header
header_of vs = record {
  used = is_one (get_or vs 0 0);
  id = file_id (get_or vs 1 0);
  owner = get_or vs 2 0;
  created = get_or vs 3 0;
  updated = get_or vs 4 0;
  expires = get_or vs 5 0;
  pages = map page_id (drop 6 vs);
}

abbrev pub slot_values : Slot → List ℕ
slot_values s = bit s.used ∷ s.spare ∷ s.expires ∷ []

abbrev pub slot_of : List ℕ → List ℕ → Slot
slot_of vs contents = record { used = is_one (get_or vs 0 0); spare = get_or vs 1 0; expires = get_or vs 2 0; contents = contents }

-- each record written to bytes and read from them
unfoldable pub control_bytes : Control → ℕ → List ℕ
control_bytes c spare = pack control_layout (control_values c spare)

unfoldable pub control_from : List ℕ → Control
control_from xs = control_of (unpack control_layout xs)

unfoldable pub spare_from : List ℕ → ℕ
spare_from xs = spare_of (unpack control_layout xs)

unfoldable pub header_bytes : Header → List ℕ
header_bytes h = pack header_layout (header_values h)

unfoldable pub header_from : List ℕ → Header
header_from xs = header_of (unpack header_layout xs)

unfoldable pub slot_bytes : Slot → List ℕ
slot_bytes s = pack slot_layout (slot_values s) ++ s.contents

unfoldable pub slot_from : List ℕ → Slot
slot_from xs = slot_of (unpack slot_layout (take 8 xs)) (drop 8 xs)

-- the first n parts of k bytes, and parts put together
unfoldable pub parts : ℕ → ℕ → List ℕ → List (List ℕ)
parts k zero xs = []
parts k (suc n) xs = take k xs ∷ parts k n (drop k xs)

unfoldable pub joined : List (List ℕ) → List ℕ
joined [] = []
joined (l ∷ ls) = l ++ joined ls

-- The header table: the control record at its start, 64 header records after it.
unfoldable pub hs_from : List ℕ → HS
hs_from xs = record {
  control = control_from (take record_size xs);
  spare = spare_from (take record_size xs);
  headers = map header_from (parts record_size header_slots (drop record_size xs));
}

unfoldable pub header_table : HS → List ℕ
header_table s = control_bytes s.control s.spare ++ joined (map header_bytes s.headers)

-- The page table: the page slots, one after the other.
unfoldable pub ps_from : Bank → List ℕ → PS
ps_from b xs = map slot_from (parts (slot_size b) b.slots xs)

unfoldable pub page_table : PS → List ℕ
page_table ps = joined (map slot_bytes ps)

abbrev pub tables_from : Bank → List ℕ → List ℕ → Tables
tables_from b headers pages = record { hs = hs_from headers; ps = ps_from b pages }
