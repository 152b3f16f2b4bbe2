-- `put32` splices in the four bytes of `v`.
use mathlib.Core.Path.{◌≡◌, refl, ap₂, ◌∙◌}
use mathlib.Core.List.{List, [], ◌∷◌, ◌++◌}
use Prim.Native.Nat.{ℕ}
use native.Mathlib.Omega.{arith}
use Rattle.bits.proofs.Splice.{splice_range}
use Rattle.bits.proofs.put32.Goals as goal

pair : {a a' b b' : ℕ} → a ≡ a' → b ≡ b' → a ∷ b ∷ [] ≡ a' ∷ b' ∷ []
pair = ap₂ {C = List ℕ} (λ (x y : ℕ). x ∷ y ∷ [])

pub returns : goal.returns
returns c =
    splice_range c.args.at _ c.args.s.now refl refl
    (c.copy_from_slice.ensures.after ∙ c.to_be_bytes.ensures
    ∙ ap₂ (λ (x y : List ℕ). x ++ y) (pair (omega arith) (omega arith)) (pair (omega arith) (omega arith)))
