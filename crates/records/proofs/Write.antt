-- A record written part by part is the record written whole.
-- Assumes nothing.
use Prim.Native.Nat.{ℕ, ◌+◌, ◌-◌, ◌*◌, ◌^◌, ◌<◌, ◌≤◌}
use mathlib.Core.Path.{◌≡◌, refl, sym, ap, ap₂, ◌∙◌}
use mathlib.Core.Bool.{Bool, true, false}
use mathlib.Core.List.{List, [], ◌∷◌, ◌++◌, append_assoc}
use native.Mathlib.Omega.{arith}
use lib.ListN.{length, take, drop, length-append}
use lib.Seq.{length-take-le, take-add, drop_at}
use borrow.Rule.Slice.PartMut.{put_mid}
use Rattle.bits.specs.Field.{pack, be, splice, nines, Bytes}
use Rattle.bits.specs.Field.Within.{none, one}
use Rattle.bits.proofs.Within.{within_head, within_tail}
use Rattle.bits.proofs.Cover.{bytes-take}
use Rattle.bits.proofs.Splice.{length_splice, splice-splice, splice_more, splice_all, splice_range, pack-append, pack_one, pack-be}
use Rattle.paper.specs.declared.Bank.{Bank}
use Rattle.paper.specs.declared.Control.{Control}
use Rattle.paper.specs.declared.Header.{Header}
use Rattle.paper.specs.Tables.{Slot}
use Rattle.paper.specs.Stores.{expiring}
use Rattle.paper.specs.Bytes.{bit, ids_of, control_bytes, control_from, spare_from, header_bytes, slot_bytes, slot_from}
use Rattle.records.specs.Fits.{ControlFits, HeaderFits}
use Rattle.records.proofs.Records.{control_fits, control_written, slot_fits, slot_written}

bit_lt : (b : Bool) → bit b < 2 ^ 1
bit_lt true = omega arith
bit_lt false = omega arith

-- in use and a 31-bit number, as one word
pub word : (u n : ℕ) → pack (1 ∷ 31 ∷ []) (u ∷ n ∷ []) ≡ be 4 (u * 2147483648 + n)
unfolding pack
word u n =
    let z : (0 * 2 + u) * 2147483648 + n ≡ u * 2147483648 + n = omega arith in
    ap (be 4) z

abbrev pub header_parts : Header → List ℕ
header_parts h =
    be 4 (bit h.used * 2147483648 + h.id.0)
    ++ (be 2 h.owner ++ (be 4 h.created ++ (be 4 h.updated ++ (be 4 h.expires ++ pack nines (ids_of h.pages)))))

pub header_parts_lem : (h : Header) → HeaderFits h → header_bytes h ≡ header_parts h
unfolding header_bytes
header_parts_lem h (one u (one i (one o (one c (one d (one e r)))))) =
    let ps : List ℕ = ids_of h.pages in
    pack-append (1 ∷ 31 ∷ []) (16 ∷ 32 ∷ 32 ∷ 32 ∷ nines) 4 32 refl refl (one u (one i none)) (one o (one c (one d (one e r))))
    ∙ ap₂ (λ (a b : List ℕ). a ++ b) (word (bit h.used) h.id.0)
    (pack-be 16 2 30 h.owner (32 ∷ 32 ∷ 32 ∷ nines) (h.created ∷ h.updated ∷ h.expires ∷ ps) refl refl o (one c (one d (one e r)))
    ∙ ap (λ (l : List ℕ). be 2 h.owner ++ l)
    (pack-be 32 4 26 h.created (32 ∷ 32 ∷ nines) (h.updated ∷ h.expires ∷ ps) refl refl c (one d (one e r))
    ∙ ap (λ (l : List ℕ). be 4 h.created ++ l)
    (pack-be 32 4 22 h.updated (32 ∷ nines) (h.expires ∷ ps) refl refl d (one e r)
    ∙ ap (λ (l : List ℕ). be 4 h.updated ++ l) (pack-be 32 4 18 h.expires nines ps refl refl e r))))

-- three parts that fill a record
pub three_parts : (a b c xs : List ℕ) → length a ≡ 6 → length b ≡ 12 → length c ≡ 18 → length xs ≡ 36 → splice 18 c (splice 6 b (splice 0 a xs)) ≡ a ++ (b ++ c)
three_parts a b c xs la lb lc h =
    ap (splice 18 c) (splice-splice 0 6 a b xs (omega arith) (omega arith))
    ∙ splice-splice 0 18 (a ++ b) c xs (omega (arith, length-append a b)) (omega (arith, length-append a b))
    ∙ splice_all (a ++ b ++ c) xs (omega (arith, length-append a b, length-append (a ++ b) c)) ∙ append_assoc a b c

-- in use, 31 spare bits and the expiry, then the contents
pub slot_parts : (s : Slot) → s.spare < 2 ^ 31 → s.expires < 2 ^ 32
    → slot_bytes s ≡ be 4 (bit s.used * 2147483648 + s.spare) ++ (be 4 s.expires ++ s.contents)
unfolding slot_bytes
slot_parts s p e =
    ap (λ (l : List ℕ). l ++ s.contents)
    (pack-append (1 ∷ 31 ∷ []) (32 ∷ []) 4 4 refl refl (one (bit_lt s.used) (one p none)) (one e none)
    ∙ ap₂ (λ (a b : List ℕ). a ++ b) (word (bit s.used) s.spare) (pack_one 32 4 s.expires refl))

-- two words and a copy behind them fill a slot: what the copy left in the part that it was lent, put back
pub slot_over : (w e : ℕ) (page xs ys last : List ℕ) → length xs ≡ 8 + length page → ys ≡ splice 4 (be 4 e) (splice 0 (be 4 w) xs) → last ≡ page
    → put_mid 8 (length ys - 8) ys last ≡ be 4 w ++ (be 4 e ++ page)
slot_over w e page xs ys last l p copied =
    let words = be 4 w ++ be 4 e in
    let two : ys ≡ splice 0 words xs = p ∙ splice-splice 0 4 (be 4 w) (be 4 e) xs (omega arith) (omega arith) in
    let ly : length ys ≡ 8 + length page = ap length two ∙ length_splice 0 words xs (omega arith) ∙ l in
    splice_range 8 page ys refl ly copied ∙ ap (splice 8 page) two ∙ splice-splice 0 8 words page xs (omega arith) (omega arith)
    ∙ splice_all (words ++ page) xs (omega arith)

-- a slot with its second word written over
pub slot_renewed : (e : ℕ) (xs : List ℕ) → e < 2 ^ 32 → Bytes xs → 8 ≤ length xs → splice 4 (be 4 e) xs ≡ slot_bytes (expiring e (slot_from xs))
unfolding splice
slot_renewed e xs f b h =
    let bank : Bank = record { slots = 0; size = length xs - 8 } in
    let s = slot_from xs in
    let fits = (slot_fits bank xs b (omega arith)).values in
    let old : xs ≡ be 4 (bit s.used * 2147483648 + s.spare) ++ (be 4 s.expires ++ s.contents) =
    sym (slot_written bank xs b (omega arith)) ∙ slot_parts s (within_head (within_tail fits)) (within_head (within_tail (within_tail fits))) in
    ap (splice 4 (be 4 e)) old ∙ sym (slot_parts (expiring e s) (within_head (within_tail fits)) f)

-- next id and clock, then the spare bits
pub control_parts : (c : Control) (spare : ℕ) → ControlFits c spare
    → control_bytes c spare ≡ be 4 c.next ++ (be 4 c.clock ++ pack (224 ∷ []) (spare ∷ []))
unfolding control_bytes
control_parts c spare (one n (one k s)) =
    pack-be 32 4 32 c.next (32 ∷ 224 ∷ []) (c.clock ∷ spare ∷ []) refl refl n (one k s)
    ∙ ap (λ (l : List ℕ). be 4 c.next ++ l) (pack-be 32 4 28 c.clock (224 ∷ []) (spare ∷ []) refl refl k s)

-- the bytes of the spare bits are those that stand there
pub spare_bytes : (xs : List ℕ) → Bytes xs → length xs ≡ 36 → pack (224 ∷ []) (spare_from xs ∷ []) ≡ drop 8 xs
spare_bytes xs b l =
    ap (drop 8) (sym (control_parts (control_from xs) (spare_from xs) (control_fits xs)) ∙ control_written xs b l)

-- next id and clock written over a control record leave its spare bits
pub control_over : (c : Control) (xs : List ℕ) → Bytes xs → 36 ≤ length xs → c.next < 2 ^ 32 → c.clock < 2 ^ 32
    → splice 4 (be 4 c.clock) (splice 0 (be 4 c.next) xs) ≡ splice 0 (control_bytes c (spare_from (take 36 xs))) xs
control_over c xs b h n k =
    let r = take 36 xs in
    let spare : pack (224 ∷ []) (spare_from r ∷ []) ≡ take 28 (drop 8 xs) =
    spare_bytes r (bytes-take 36 xs b) (length-take-le 36 xs h)
    ∙ ap (drop 8) (take-add 8 28 xs) ∙ drop_at (take 8 xs) (take 28 (drop 8 xs)) 8 (length-take-le 8 xs (omega arith)) in
    splice-splice 0 4 (be 4 c.next) (be 4 c.clock) xs (omega arith) (omega arith)
    ∙ sym (splice_more 0 28 (be 4 c.next ++ be 4 c.clock) xs (omega arith))
    ∙ ap (λ (l : List ℕ). splice 0 (be 4 c.next ++ (be 4 c.clock ++ l)) xs) (sym spare)
    ∙ ap (λ (l : List ℕ). splice 0 l xs) (sym (control_parts c (spare_from r) (one n (one k (within_tail (within_tail (control_fits r)))))))
