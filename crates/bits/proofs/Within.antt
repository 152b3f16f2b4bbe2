-- Values within their widths: the parts of that fact, and a test that computes it.
-- Assumes nothing.
use mathlib.Core.Path.{◌≡◌, refl, ap}
use mathlib.Core.Bool.{Bool, true, false, ◌&&◌}
use mathlib.Core.List.{List, [], ◌∷◌, ◌++◌}
use Prim.Native.Nat.{ℕ, suc, ◌^◌, ◌<◌}
use lib.Dec.{ltb, ltb→lt, T}
use lib.ListN.{length, take, drop}
use Rattle.bits.specs.Field.{Within}
use Rattle.bits.specs.Field.Within.{none, one}

pub within_head : {w v : ℕ} {ws vs : List ℕ} → Within (w ∷ ws) (v ∷ vs) → v < 2 ^ w
within_head (one h r) = h

pub within_tail : {w v : ℕ} {ws vs : List ℕ} → Within (w ∷ ws) (v ∷ vs) → Within ws vs
within_tail (one h r) = r

pub within_length : {ws vs : List ℕ} → Within ws vs → length vs ≡ length ws
within_length none = refl
within_length (one h r) = ap suc (within_length r)

pub within_append : {ws vs ws' vs' : List ℕ} → Within ws vs → Within ws' vs' → Within (ws ++ ws') (vs ++ vs')
within_append none s = s
within_append (one h r) s = one h (within_append r s)

pub within_take : (ws ws' : List ℕ) {vs : List ℕ} → Within (ws ++ ws') vs → Within ws (take (length ws) vs)
within_take [] ws' r = none
within_take (w ∷ ws) ws' (one h r) = one h (within_take ws ws' r)

pub within_drop : (ws ws' : List ℕ) {vs : List ℕ} → Within (ws ++ ws') vs → Within ws' (drop (length ws) vs)
within_drop [] ws' r = r
within_drop (w ∷ ws) ws' (one h r) = within_drop ws ws' r

abbrev pub withinb : List ℕ → List ℕ → Bool
withinb [] [] = true
withinb [] (v ∷ vs) = false
withinb (w ∷ ws) [] = false
withinb (w ∷ ws) (v ∷ vs) = ltb v (2 ^ w) && withinb ws vs

and_left : (a b : Bool) → T (a && b) → T a
and_left true b t = tt
and_left false b t = t

and_right : (a b : Bool) → T (a && b) → T b
and_right true b t = t
and_right false b t = absurd t

pub within_test : (ws vs : List ℕ) → T (withinb ws vs) → Within ws vs
within_test [] [] t = none
within_test [] (v ∷ vs) t = absurd t
within_test (w ∷ ws) [] t = absurd t
within_test (w ∷ ws) (v ∷ vs) t =
    one (ltb→lt v (2 ^ w) (and_left (ltb v (2 ^ w)) (withinb ws vs) t)) (within_test ws vs (and_right (ltb v (2 ^ w)) (withinb ws vs) t))
