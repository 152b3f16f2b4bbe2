-- What a refusal's report tells, and a number that is none of the first ones.
-- Assumes nothing.
use Prim.Native.Nat.{ℕ, zero, suc, ◌≤◌}
use mathlib.Core.Path.{◌≡◌, sym, ap}
use native.Mathlib.Omega.{arith}
use Rattle.paper.specs.declared.Refusal.{Refusal}
use Rattle.paper.specs.Answers.{refused}

pub same_number : {number k : Refusal} → number ≡ k → refused k ≡ refused number
same_number e = ap refused (sym e)

-- a number that is none of 1 to k
abbrev Missing : ℕ → ℕ → Type 0
Missing zero n = Unit {0}
Missing (suc k) n = Missing k n × (n ≡ suc k → ⊥)

pub above : (k n : ℕ) → 1 ≤ n → Missing k n → suc k ≤ n
above zero n h m = h
above (suc k) n h m = let i = above k n h m.0 in omega arith
