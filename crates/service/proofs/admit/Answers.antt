-- `admit` refuses a list that does not fit.
use mathlib.Core.Path.{sym, ◌∙◌}
use Rattle.service.specs.Border.{admission}
use Rattle.service.proofs.admit.Goals as goal

pub returns-then-not-outcomes_fit : goal.returns-then-not-outcomes_fit
unfolding admission
returns-then-not-outcomes_fit c = rw (sym c.outcomes_fit.ensures ∙ c.if-not-outcomes_fit.true)
