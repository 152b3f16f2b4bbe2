-- Fresh tables are zeros, but for the control record.
-- Assumes nothing.
use Prim.Native.Nat.{ℕ, zero, suc, ◌+◌, ◌*◌}
use mathlib.Core.Path.{◌≡◌, refl, sym, ap, ap₂, ◌∙◌}
use mathlib.Core.List.{List, ◌++◌, map}
use native.Mathlib.Nat.{zero-add, zero-mul, suc-mul}
use native.Mathlib.Omega.{arith}
use lib.ListN.{length, take, drop, replicate, replicate-append-replicate}
use Rattle.bits.specs.Field.{value, unpack, splice}
use Rattle.paper.specs.declared.Bank.{Bank}
use Rattle.paper.specs.Tables.{no_header, no_slot, header_slots, fresh}
use Rattle.paper.specs.Bytes.{record_size, headers_length, pages_length, slot_size, control_bytes, spare_from, header_bytes, slot_bytes, joined, header_table, page_table}
use Rattle.records.proofs.Records.{control_length}
use Rattle.stores.proofs.Slots.{no_slot_bytes}
use Rattle.stores.proofs.HeaderSlots.{no_header_bytes}

-- records that are written as zeros
joined_zeros : {A : Type 0} (of : A → List ℕ) (x : A) (k n : ℕ) → of x ≡ replicate k 0 → joined (map of (replicate n x)) ≡ replicate (n * k) 0
unfolding joined
joined_zeros of x k zero e = rw (zero-mul k)
joined_zeros of x k (suc n) e =
    let more : k + n * k ≡ suc n * k = omega (arith, suc-mul n k) in
    ap₂ (λ (a b : List ℕ). a ++ b) e (joined_zeros of x k n e) ∙ replicate-append-replicate k (n * k) 0 ∙ ap (λ (m : ℕ). replicate m 0) more

pub fresh_pages : (b : Bank) → page_table (fresh b).ps ≡ replicate (pages_length b) 0
unfolding page_table
fresh_pages b = joined_zeros slot_bytes (no_slot b) (slot_size b) b.slots (no_slot_bytes b)

no_spare : spare_from (take 36 (replicate headers_length 0)) ≡ 0
unfolding spare_from unpack value
no_spare = refl

-- next id 1 and clock 0 over zeros
pub fresh_headers : (b : Bank) (xs : List ℕ) → length xs ≡ headers_length → (ys zs : List ℕ) → ys ≡ replicate (length xs) 0
    → zs ≡ splice 0 (control_bytes (record { next = 1; clock = 0 }) (spare_from (take 36 ys))) ys → zs ≡ header_table (fresh b).hs
unfolding header_table splice
fresh_headers b xs l ys zs ey ez =
    let zeros : ys ≡ replicate headers_length 0 = ey ∙ ap (λ (m : ℕ). replicate m 0) l in
    let c = control_bytes (record { next = 1; clock = 0 }) in
    let laid : splice 0 (c 0) (replicate headers_length 0) ≡ c 0 ++ drop 36 (replicate headers_length 0) = rw (zero-add, control_length (record { next = 1; clock = 0 }) 0) in
    ez
    ∙ ap (λ (q : List ℕ). splice 0 (c (spare_from (take 36 q))) q) zeros
    ∙ ap (λ (s : ℕ). splice 0 (c s) (replicate headers_length 0)) no_spare
    ∙ laid
    ∙ ap (λ (q : List ℕ). c 0 ++ q) (sym (joined_zeros header_bytes no_header record_size header_slots no_header_bytes))
