-- `pack_pages` writes the ids' numbers in nine bits each.
use mathlib.Core.Path.{sym, ap, ◌∙◌, subst}
use mathlib.Core.List.{List}
use Prim.Native.Nat.{ℕ}
use native.Mathlib.Omega.{arith}
use Rattle.bits.specs.Field.{pack, splice, nines, Within}
use Rattle.records.proofs.pack_pages.Goals as goal

pub put_nines-requires : goal.put_nines-requires
put_nines-requires c =
    let s = c in
    (omega arith, subst (λ (l : List ℕ). Within nines l) (sym c.numbers-ids.ensures) s.requires.1)

pub returns : goal.returns
returns c =
    let c1 = c in
    let s = c1 in
    c1.put_nines.ensures ∙ ap (λ (l : List ℕ). splice 18 (pack nines l) s.args.r.now) c1.numbers-ids.ensures
