-- When records and tables are within their ranges, and a slot as its head beside its contents.
use Rattle.std.specs.Prelude.{ℕ, ◌≡◌, Bool, ◌&&◌, List, [], ◌∷◌, length, eqb}
use Rattle.bits.specs.Field.{Within, Bytes}
use Rattle.paper.specs.declared.Bank.{Bank}
use Rattle.paper.specs.declared.Control.{Control}
use Rattle.paper.specs.declared.FileId.{FileId}
use Rattle.paper.specs.declared.Header.{Header}
use Rattle.paper.specs.Tables.{Slot, HS, PS, header_slots}
use Rattle.paper.specs.Bytes.{control_layout, control_values, header_layout, header_values, slot_layout, slot_values}
use Rattle.records.specs.declared.SlotHead.{SlotHead}
use Rattle.records.specs.declared.Lease.{Lease}

abbrev pub ControlFits : Control → ℕ → Type 0
ControlFits c spare = Within control_layout (control_values c spare)

abbrev pub HeaderFits : Header → Type 0
HeaderFits h = Within header_layout (header_values h)

pub record SlotFits (b : Bank) (s : Slot) : Type 0 where
  pub values : Within slot_layout (slot_values s)
  pub contents : Bytes s.contents
  pub size : length s.contents ≡ b.size

module _ {A : Type 0} where
  pub data Each (P : A → Type 0) : List A → Type 0 where
    none : Each P []
    one : {x : A} {xs : List A} → P x → Each P xs → Each P (x ∷ xs)

pub record HSFits (s : HS) : Type 0 where
  pub control : ControlFits s.control s.spare
  pub headers : Each HeaderFits s.headers
  pub count : length s.headers ≡ header_slots

pub record PSFits (b : Bank) (ps : PS) : Type 0 where
  pub slots : Each (SlotFits b) ps
  pub count : length ps ≡ b.slots

abbrev pub head_of : Slot → SlotHead
head_of s = record { lease = record { used = s.used; expires = s.expires }; spare = s.spare }

abbrev pub slot_with : SlotHead → List ℕ → Slot
slot_with h page = record { used = h.lease.used; spare = h.spare; expires = h.lease.expires; contents = page }

abbrev pub lease_of : Header → Lease
lease_of h = record { used = h.used; expires = h.expires }

-- in use under this id
abbrev pub in_use_as : FileId → Header → Bool
in_use_as id h = h.used && eqb h.id.0 id.0
