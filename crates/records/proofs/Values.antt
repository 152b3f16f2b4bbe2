-- A record is its values, and values within the layout are a record's.
-- Assumes nothing.
use mathlib.Core.Path.{◌≡◌, refl}
use mathlib.Core.Bool.{Bool, true, false}
use mathlib.Core.List.{List, [], ◌∷◌, map}
use Prim.Native.Nat.{ℕ, zero, suc, ◌^◌, ◌<◌}
use native.Mathlib.Omega.{arith}
use Rattle.bits.specs.Field.{Within}
use Rattle.bits.specs.Field.Within.{none, one}
use Rattle.paper.specs.declared.PageId.{PageId}
use Rattle.paper.specs.declared.Header.{Header}
use Rattle.paper.specs.Ids.{page_id}
use Rattle.paper.specs.Tables.{Slot}
use Rattle.paper.specs.Bytes.{bit, is_one, control_layout, control_values, control_of, spare_of, ids_of, header_layout, header_values, header_of, slot_layout, slot_values, slot_of}

pub bit_is_one : (b : Bool) → is_one (bit b) ≡ b
bit_is_one true = refl
bit_is_one false = refl

pub is_one_bit : (n : ℕ) → n < 2 ^ 1 → bit (is_one n) ≡ n
is_one_bit zero h = refl
is_one_bit (suc zero) h = refl
is_one_bit (suc (suc n)) h = absurd (omega arith)

map_back : {A B : Type 0} (f : A → B) (g : B → A) → ((y : B) → f (g y) ≡ y) → (ys : List B) → map f (map g ys) ≡ ys
map_back f g back [] = refl
map_back f g back (y ∷ ys) = λ i. back y i ∷ map_back f g back ys i

pub ids_pages : (ns : List ℕ) → ids_of (map page_id ns) ≡ ns
ids_pages ns = map_back (λ (p : PageId). p.0) page_id (λ n. refl) ns

pub pages_ids : (ps : List PageId) → map page_id (ids_of ps) ≡ ps
pages_ids ps = map_back page_id (λ (p : PageId). p.0) (λ p. refl) ps

pub values_of_control : (vs : List ℕ) → Within control_layout vs → control_values (control_of vs) (spare_of vs) ≡ vs
values_of_control vs (one n (one c (one s none))) = refl

pub header_of_values : (h : Header) → header_of (header_values h) ≡ h
header_of_values h = λ i. record {
  used = bit_is_one h.used i;
  id = h.id;
  owner = h.owner;
  created = h.created;
  updated = h.updated;
  expires = h.expires;
  pages = pages_ids h.pages i;
}

pub values_of_header : (vs : List ℕ) → Within header_layout vs → header_values (header_of vs) ≡ vs
values_of_header vs (one {v = u} hu (one {v = n} hn (one {v = o} ho (one {v = c} hc (one {v = d} hd (one {v = e} {vs = ps} he r)))))) =
    λ i. is_one_bit u hu i ∷ n ∷ o ∷ c ∷ d ∷ e ∷ ids_pages ps i

pub slot_of_values : (s : Slot) → slot_of (slot_values s) s.contents ≡ s
slot_of_values s = λ i. record { used = bit_is_one s.used i; spare = s.spare; expires = s.expires; contents = s.contents }

pub values_of_slot : (contents vs : List ℕ) → Within slot_layout vs → slot_values (slot_of vs contents) ≡ vs
values_of_slot contents vs (one {v = u} hu (one {v = z} hz (one {v = e} he none))) = λ i. is_one_bit u hu i ∷ z ∷ e ∷ []
