-- Bytes put into a list in place, and a record as the bytes of its parts.
-- Assumes nothing.
use mathlib.Core.Path.{◌≡◌, sym, ap, ap₂, ◌∙◌}
use mathlib.Core.List.{List, [], ◌∷◌, ◌++◌, append_assoc, append-nil}
use Prim.Native.Nat.{ℕ, ◌+◌, ◌-◌, ◌*◌, ◌/◌, ◌^◌, ◌<◌, ◌≤◌}
use native.Mathlib.Nat.{add_assoc, zero-mul}
use native.Mathlib.Omega.{arith}
use borrow.Rule.Slice.PartMut.{put_mid}
use lib.ListN.{length, take, drop, length-append, length-take, length-drop, take-append-drop, drop_of_length-le}
use lib.Seq.{length-take-le, take_at, drop-append-add, drop-drop}
use Rattle.bits.specs.Field.{total, join, be, value, pack, Within, splice}
use Rattle.bits.specs.Field.Within.{none, one}
use Rattle.bits.proofs.Numbers.{join_acc, join-append, total-append}
use Rattle.bits.proofs.Within.{within_append}
use Rattle.bits.proofs.Layouts.{value_same, value_pack, pack_bytes, length_pack}
use Rattle.bits.proofs.Cover.{value-append, bytes-append}

module _ (at : ℕ) (ys xs : List ℕ) (fits : at + length ys ≤ length xs) where
  pub length_splice : length (splice at ys xs) ≡ length xs
  unfolding splice
  length_splice = simp (length-append, length-take, length-drop) (omega arith)

-- what stands after it already
pub splice_more : (at k : ℕ) (ys xs : List ℕ) → at + length ys + k ≤ length xs → splice at (ys ++ take k (drop (at + length ys) xs)) xs ≡ splice at ys xs
unfolding splice
splice_more at k ys xs h =
    let q = drop (at + length ys) xs in
    let l : length (take k q) ≡ k = length-take-le k q (omega (arith, length-drop (at + length ys) xs)) in
    let e : at + length (ys ++ take k q) ≡ at + length ys + k = omega (arith, length-append ys (take k q)) in
    let d : drop (at + length (ys ++ take k q)) xs ≡ drop k q = ap (λ (n : ℕ). drop n xs) e ∙ sym (drop-drop k (at + length ys) xs) in
    ap (λ (l : List ℕ). take at xs ++ l)
    (append_assoc ys (take k q) (drop (at + length (ys ++ take k q)) xs)
    ∙ ap (λ (l : List ℕ). ys ++ l) (ap (λ (l : List ℕ). take k q ++ l) d ∙ take-append-drop k q))

pub splice_all : (ys xs : List ℕ) → length ys ≡ length xs → splice 0 ys xs ≡ ys
unfolding splice
splice_all ys xs e = ap (λ (l : List ℕ). ys ++ l) (drop_of_length-le xs {i = 0 + length ys} (omega arith)) ∙ append-nil ys

-- the part from a up to e, which was lent and comes back as zs
pub splice_range : (at : ℕ) (ys xs : List ℕ) {a e : ℕ} {zs : List ℕ} → a ≡ at → e ≡ at + length ys → zs ≡ ys → put_mid a (e - a) xs zs ≡ splice at ys xs
unfolding splice
splice_range at ys xs {a} {e} p q h =
    let k : e - a ≡ length ys = omega (arith, p, q) in
    rw (k, p, h) (ap (λ (l : List ℕ). take at xs ++ (ys ++ l)) (drop-drop (length ys) at xs))

-- one after the other
pub splice-splice : (at n : ℕ) (cs bs xs : List ℕ) → at + length cs + length bs ≤ length xs → n ≡ at + length cs
    → splice n bs (splice at cs xs) ≡ splice at (cs ++ bs) xs
unfolding splice
splice-splice at n cs bs xs h e =
    let q = drop (at + length cs) xs in
    let p = take at xs ++ cs in
    let lp : length p ≡ n = length-append (take at xs) cs ∙ omega (arith, length-take-le at xs (omega arith)) in
    let s : take at xs ++ (cs ++ q) ≡ p ++ q = sym (append_assoc (take at xs) cs q) in
    let d : drop (n + length bs) (p ++ q) ≡ drop (at + length (cs ++ bs)) xs =
    ap (λ (k : ℕ). drop (k + length bs) (p ++ q)) (sym lp) ∙ drop-append-add p q (length bs) ∙ drop-drop (length bs) (at + length cs) xs
    ∙ ap (λ (k : ℕ). drop k xs) (add_assoc at (length cs) (length bs) ∙ ap (λ (k : ℕ). at + k) (sym (length-append cs bs))) in
    ap (λ (l : List ℕ). take n l ++ (bs ++ drop (n + length bs) l)) s
    ∙ ap₂ (λ (l m : List ℕ). l ++ (bs ++ m)) (take_at p q n lp) d
    ∙ append_assoc (take at xs) cs (bs ++ drop (at + length (cs ++ bs)) xs)
    ∙ ap (λ (l : List ℕ). take at xs ++ l) (sym (append_assoc cs bs (drop (at + length (cs ++ bs)) xs)))

-- A record is its parts, where they end at whole bytes.
pub pack-append : (ws ws' : List ℕ) (k k' : ℕ) {vs vs' : List ℕ} → total ws ≡ 8 * k → total ws' ≡ 8 * k' → Within ws vs → Within ws' vs'
    → pack (ws ++ ws') (vs ++ vs') ≡ pack ws vs ++ pack ws' vs'
pack-append ws ws' k k' {vs} {vs'} t t' r r' =
    let l : length (pack ws vs) ≡ k = length_pack ws k t vs in
    let l' : length (pack ws' vs') ≡ k' = length_pack ws' k' t' vs' in
    let t+ : total (ws ++ ws') ≡ 8 * (k + k') = omega (arith, total-append ws ws') in
    let l+ : length (pack (ws ++ ws') (vs ++ vs')) ≡ k + k' = length_pack (ws ++ ws') (k + k') t+ (vs ++ vs') in
    let e : 8 * length (pack ws' vs') ≡ total ws' = omega arith in
    value_same (pack (ws ++ ws') (vs ++ vs')) (pack ws vs ++ pack ws' vs')
    (pack_bytes (ws ++ ws') (vs ++ vs'))
    (bytes-append (pack ws vs) (pack ws' vs') (pack_bytes ws vs) (pack_bytes ws' vs'))
    (omega (arith, length-append (pack ws vs) (pack ws' vs')))
    (value_pack (ws ++ ws') (k + k') t+ (vs ++ vs') (within_append r r')
    ∙ join-append 0 ws' vs' r ∙ join_acc (join 0 ws vs) r'
    ∙ sym
    (value-append (pack ws vs) (pack ws' vs') (pack_bytes ws' vs')
    ∙ ap (λ (m : ℕ). value (pack ws vs) * 2 ^ m + value (pack ws' vs')) e
    ∙ ap₂ (λ (m n : ℕ). m * 2 ^ total ws' + n) (value_pack ws k t vs r) (value_pack ws' k' t' vs' r')))

pub pack_one : (w k n : ℕ) → w ≡ 8 * k → pack (w ∷ []) (n ∷ []) ≡ be k n
unfolding pack
pack_one w k n e =
    let a : (w + 0) / 8 ≡ k = omega arith in
    let z : 0 * 2 ^ w + n ≡ n = rw zero-mul (omega arith) in
    ap₂ be a z

-- a number of whole bytes, and the rest
pub pack-be : (w k k' n : ℕ) (ws vs : List ℕ) → w ≡ 8 * k → total ws ≡ 8 * k' → n < 2 ^ w → Within ws vs → pack (w ∷ ws) (n ∷ vs) ≡ be k n ++ pack ws vs
pack-be w k k' n ws vs e t h r =
    pack-append (w ∷ []) ws k k' (omega arith) t (one h none) r ∙ ap (λ (l : List ℕ). l ++ pack ws vs) (pack_one w k n e)
