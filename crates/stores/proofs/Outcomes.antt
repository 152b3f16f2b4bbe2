-- What a step answers that goes through.
-- Assumes nothing.
use Prim.Native.Nat.{ℕ}
use mathlib.Core.Path.{◌≡◌, sym, ◌∙◌}
use Rattle.std.specs.Prelude.{Result, Ok}
use Rattle.paper.specs.declared.Refusal.{Refusal}
use Rattle.paper.specs.Stores.{Try, gone}
use Rattle.paper.specs.Steps.{done, allowed, tried, attempt}

pub goes : {S : Type 0} (o : ℕ) (f : S → Try S) {s : S} {x : Result (Unit {0}) Refusal} {u : Unit {0}} {n : ℕ} {s' : S} → x ≡ allowed o → x ≡ Ok u → f s ≡ gone n s' → done (Ok n) s' ≡ attempt o f s
unfolding attempt tried
goes o f p e h = rw (attempt, sym p ∙ e, h)
