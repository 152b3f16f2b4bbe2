-- `put16` splices in the two bytes of `v`.
use mathlib.Core.Path.{refl, ap₂, ◌∙◌}
use mathlib.Core.List.{[], ◌∷◌}
use Prim.Native.Nat.{ℕ}
use native.Mathlib.Omega.{arith}
use Rattle.bits.proofs.Splice.{splice_range}
use Rattle.bits.proofs.put16.Goals as goal

pub returns : goal.returns
returns c =
    splice_range c.args.at _ c.args.s.now refl refl
    (c.copy_from_slice.ensures.after ∙ c.to_be_bytes.ensures ∙ ap₂ (λ (a b : ℕ). a ∷ b ∷ []) (omega arith) (omega arith))
