-- Which slot a step that went through names, and the header that a slot holds.
-- Assumes nothing.
use Prim.Native.Nat.{ℕ, ◌*◌, ◌≤◌}
use mathlib.Core.Path.{◌≡◌, refl, sym, ◌∙◌}
use mathlib.Core.List.{List}
use lib.ListN.{take, drop}
use Rattle.std.specs.Prelude.{Option, Some, None, Ok}
use Rattle.paper.specs.declared.Bank.{Bank}
use Rattle.paper.specs.declared.Header.{Header}
use Rattle.paper.specs.declared.Refusal.TheVariants.{NoSpace}
use Rattle.paper.specs.Ids.{page_id}
use Rattle.paper.specs.Lists.{lowest}
use Rattle.paper.specs.Tables.{PS, header_at, slot_free, put_slot}
use Rattle.paper.specs.Stores.{Try, gone, no, full_slot, create_page}
use Rattle.paper.specs.Steps.{done, attempt}
use Rattle.paper.specs.Bytes.{header_from, hs_from, ps_from}
use Rattle.paper.proofs.Searched.{page_none, page_at_lem}
use Rattle.records.proofs.Places.{header_place}
use Rattle.stores.specs.declared.slot.HeaderSlot.{HeaderSlot}
use Rattle.stores.proofs.Slots.{found_slot}
use Rattle.rows.proofs.Steps.{went}

-- a page that was created has a slot of the bank
module _ (t e : ℕ) (page : List ℕ) (b : Bank) (xs : List ℕ) (n : ℕ) (ps' : PS) where
  abbrev ps : PS
  ps = ps_from b xs

  gone_page : create_page t page e ps ≡ gone n ps' → (1 ≤ n) × (n ≤ b.slots)
  gone_page w = go (lowest (slot_free t) ps) refl
    where
      go : (l : Option ℕ) → lowest (slot_free t) ps ≡ l → (1 ≤ n) × (n ≤ b.slots)
      go (Some m) h =
          let w' : gone m (put_slot (page_id m) (full_slot page e) ps) ≡ gone n ps' = sym (page_at_lem t e page ps m h) ∙ w in
          let same : m ≡ n = cc in
          rw same at (found_slot b t xs m h)
      go None h = let z : ◌≡◌ {A = Try PS} (no NoSpace) (gone n ps') = sym (page_none t e page ps h) ∙ w in cc

  pub created_slot : (o : ℕ) → done (Ok n) ps' ≡ attempt o (create_page t page e) ps → (1 ≤ n) × (n ≤ b.slots)
  created_slot o w = gone_page (went n ps ps' o (create_page t page e) w)

-- the header read from a slot
pub at_slot : (xs : List ℕ) (s : HeaderSlot) (h : Header) → h ≡ header_from (take 36 (drop (s.number * 36) xs)) → h ≡ header_at (hs_from xs) s.number
at_slot xs s h e = e ∙ sym (header_place xs s.number s.within.0 s.within.1)
