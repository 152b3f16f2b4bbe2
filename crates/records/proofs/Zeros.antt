-- Bytes are all zero exactly where the values that they hold by a layout are: for any layout, and for the three records.
-- Assumes nothing.
use Prim.Native.Nat.{ℕ, zero, suc, ◌+◌, ◌*◌, ◌^◌, ◌<◌, ◌≤◌}
use mathlib.Core.Path.{◌≡◌, refl, sym, ap, ◌∙◌, subst}
use mathlib.Core.Bool.{Bool, true, false, not, ◌&&◌, and_assoc, and-true}
use mathlib.Core.List.{List, [], ◌∷◌, ◌++◌, map}
use native.Mathlib.Nat.{zero-mul, zero-add, le-mul_of_pos_right}
use native.Mathlib.Omega.{arith}
use borrow.Author.Tests.{ne_eqb, eqb-true, eqb-false}
use lib.ListN.{length, take, drop, take-append-drop}
use lib.Seq.{length-take-le}
use lib.Pow.{pow_pos}
use Rattle.bits.specs.Field.{total, join, value, pack, unpack, Within, Bytes}
use Rattle.bits.specs.Field.Within.{none, one}
use Rattle.bits.proofs.Numbers.{join_cut_0}
use Rattle.bits.proofs.Within.{within_tail}
use Rattle.bits.proofs.Layouts.{bytes_within, value_lt, unpack_within, pack_bytes, length_pack, unpack_pack}
use Rattle.bits.proofs.Cover.{bytes-take}
use Rattle.paper.specs.declared.PageId.{PageId}
use Rattle.paper.specs.Ids.{page_id}
use Rattle.paper.specs.Lists.{all, is_zero}
use Rattle.paper.specs.Sound.{zero_header, zero_slot}
use Rattle.paper.specs.Bytes.{is_one, spare_from, header_layout, header_of, header_from, slot_layout, slot_of, slot_from}
use Rattle.records.proofs.Records.{control_fits}
use Rattle.records.proofs.Write.{spare_bytes}

pub all_append : {A : Type 0} (f : A → Bool) (xs ys : List A) → all f (xs ++ ys) ≡ all f xs && all f ys
all_append f [] ys = refl
all_append f (x ∷ xs) ys = ap (λ (b : Bool). f x && b) (all_append f xs ys) ∙ sym (and_assoc (f x) (all f xs) (all f ys))

-- a number with w bits after it
zero_then : (a w v : ℕ) → is_zero (a * 2 ^ w + v) ≡ is_zero a && is_zero v
zero_then a w v = go (is_zero a) refl
  where
    go : (t : Bool) → is_zero a ≡ t → is_zero (a * 2 ^ w + v) ≡ t && is_zero v
    go true e = rw (eqb-true a 0 e, zero-mul, zero-add)
    go false e = ne_eqb _ _ (λ (z : a * 2 ^ w + v ≡ 0). eqb-false a 0 e (omega (arith, le-mul_of_pos_right a (pow_pos w))))

zero_join : {ws vs : List ℕ} (acc : ℕ) → Within ws vs → is_zero (join acc ws vs) ≡ is_zero acc && all is_zero vs
zero_join acc none = sym (and-true (is_zero acc))
zero_join acc (one {w = w} {v = v} {vs = vs} h r) =
    zero_join (acc * 2 ^ w + v) r ∙ ap (λ (b : Bool). b && all is_zero vs) (zero_then acc w v) ∙ and_assoc (is_zero acc) (is_zero v) (all is_zero vs)

zero_bytes : (xs : List ℕ) → Bytes xs → is_zero (value xs) ≡ all is_zero xs
unfolding value
zero_bytes xs b = zero_join 0 (bytes_within xs b)

zero_values : (ws : List ℕ) (k : ℕ) → total ws ≡ 8 * k → (xs : List ℕ) → Bytes xs → length xs ≡ k → all is_zero (unpack ws xs) ≡ all is_zero xs
unfolding unpack
zero_values ws k whole xs b l =
    let e : 8 * length xs ≡ total ws = omega arith in
    sym (zero_join 0 (unpack_within ws xs))
    ∙ ap is_zero (join_cut_0 ws (value xs) (subst (λ (m : ℕ). value xs < 2 ^ m) e (value_lt xs b))) ∙ zero_bytes xs b

-- the control record's spare bits are its bytes after the clock
pub zero_spare : (xs : List ℕ) → Bytes xs → length xs ≡ 36 → is_zero (spare_from xs) ≡ all is_zero (drop 8 xs)
zero_spare xs b l =
    let ws : List ℕ = 224 ∷ [] in
    let vs : List ℕ = spare_from xs ∷ [] in
    sym (and-true (is_zero (spare_from xs)))
    ∙ ap (all is_zero) (sym (unpack_pack ws 28 refl vs (within_tail (within_tail (control_fits xs)))))
    ∙ zero_values ws 28 refl (pack ws vs) (pack_bytes ws vs) (length_pack ws 28 refl vs)
    ∙ ap (all is_zero) (spare_bytes xs b l)

zero_bit : (u : ℕ) → u < 2 ^ 1 → not (is_one u) ≡ is_zero u
zero_bit zero h = refl
zero_bit (suc zero) h = refl
zero_bit (suc (suc u)) h = absurd (omega arith)

zero_ids : (ns : List ℕ) → all (λ (p : PageId). is_zero p.0) (map page_id ns) ≡ all is_zero ns
zero_ids [] = refl
zero_ids (n ∷ ns) = ap (λ (b : Bool). is_zero n && b) (zero_ids ns)

zero_header_values : (vs : List ℕ) → Within header_layout vs → zero_header (header_of vs) ≡ all is_zero vs
unfolding zero_header
zero_header_values vs (one {v = u} hu (one hn (one ho (one hc (one hd (one {vs = ps} he r)))))) = rw (zero_bit u hu, zero_ids ps) (simp and_assoc)

pub zero_header_lem : (xs : List ℕ) → Bytes xs → length xs ≡ 36 → zero_header (header_from xs) ≡ all is_zero xs
unfolding header_from
zero_header_lem xs b l = zero_header_values (unpack header_layout xs) (unpack_within header_layout xs) ∙ zero_values header_layout 36 refl xs b l

zero_slot_values : (contents vs : List ℕ) → Within slot_layout vs → zero_slot (slot_of vs contents) ≡ all is_zero vs && all is_zero contents
unfolding zero_slot
zero_slot_values contents vs (one {v = u} hu (one {v = z} hz (one {v = e} he none))) = rw (zero_bit u hu) (simp (and_assoc, and-true))

pub zero_slot_lem : (xs : List ℕ) → Bytes xs → 8 ≤ length xs → zero_slot (slot_from xs) ≡ all is_zero xs
unfolding slot_from
zero_slot_lem xs b l =
    zero_slot_values (drop 8 xs) (unpack slot_layout (take 8 xs)) (unpack_within slot_layout (take 8 xs))
    ∙ ap (λ (t : Bool). t && all is_zero (drop 8 xs)) (zero_values slot_layout 8 refl (take 8 xs) (bytes-take 8 xs b) (length-take-le 8 xs l))
    ∙ sym (all_append is_zero (take 8 xs) (drop 8 xs)) ∙ ap (all is_zero) (take-append-drop 8 xs)
