-- `put_nines` splices in the packed numbers: eight of them are nine whole bytes, so the halves are spliced in one after the other.
use mathlib.Core.Path.{◌≡◌, refl, sym, ap, ◌∙◌}
use mathlib.Core.List.{List, [], ◌++◌}
use Prim.Native.Nat.{ℕ, ◌+◌}
use native.Mathlib.Omega.{arith}
use lib.ListN.{length, take, drop}
use lib.Seq.{take_all, take-add}
use Rattle.bits.specs.Field.{pack, splice, nines, half_nines, Within}
use Rattle.bits.proofs.Within.{within_length, within_take, within_drop}
use Rattle.bits.proofs.Layouts.{length_pack}
use Rattle.bits.proofs.Splice.{splice-splice, pack-append}
use Rattle.bits.proofs.put_nines.Goals as goal

first : {vs : List ℕ} → Within nines vs → Within half_nines (take 8 vs)
first r = within_take half_nines half_nines r

last : {vs : List ℕ} → Within nines vs → Within half_nines (take 8 (drop 8 vs))
last r = within_take half_nines [] (within_drop half_nines half_nines r)

halves : (vs : List ℕ) → Within nines vs → pack nines vs ≡ pack half_nines (take 8 vs) ++ pack half_nines (take 8 (drop 8 vs))
halves vs r =
    ap (pack nines) (sym (take_all 16 vs (omega (arith, within_length r))) ∙ take-add 8 8 vs)
    ∙ pack-append half_nines half_nines 9 9 refl refl (first r) (last r)

pub slice_bounds-put_half-end : goal.slice_bounds-put_half-end
slice_bounds-put_half-end c = omega (arith, within_length c.requires.1)

pub put_half-requires : goal.put_half-requires
put_half-requires c = (omega arith, first c.requires.1)

pub slice_bounds-put_half-end-2 : goal.slice_bounds-put_half-end-2
slice_bounds-put_half-end-2 c = omega (arith, within_length c.requires.1)

pub put_half-requires-2 : goal.put_half-requires-2
put_half-requires-2 c = (omega arith, last c.requires.1)

pub returns : goal.returns
returns c =
    let c2 = c in
    let c1 = c2 in
    let s = c1 in
    let at = s.args.at in
    let vs = s.args.ids.now in
    let xs = s.args.s.now in
    let a = pack half_nines (take 8 vs) in
    let b = pack half_nines (take 8 (drop 8 vs)) in
    let la : length a ≡ 9 = length_pack half_nines 9 refl (take 8 vs) in
    let lb : length b ≡ 9 = length_pack half_nines 9 refl (take 8 (drop 8 vs)) in
    c2.put_half-2.ensures ∙ ap (splice (at + 9) b) c1.put_half.ensures
    ∙ splice-splice at (at + 9) a b xs (omega arith) (omega arith) ∙ ap (λ (l : List ℕ). splice at l xs) (sym (halves vs s.requires.1))
