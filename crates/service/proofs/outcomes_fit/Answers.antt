-- `outcomes_fit` joins its tests by and, and so tells whether all pass.
use mathlib.Core.Path.{refl}
use lib.Dec.{leb}
use borrow.Author.Tests.{eq-eqb}
use Rattle.std.proofs.Common.{rules}
use Rattle.paper.proofs.Tests.{fold_all}
use Rattle.service.proofs.outcomes_fit.Goals as goal

pub returns-then-outcomes-eq18 : goal.returns-then-outcomes-eq18
returns-then-outcomes-eq18 c =
    rw (eq-eqb _ _ c.if-outcomes-eq18.true)
    (fold_all c.fold.ensures.ran c.iter.ensures.rest (λ t. t) (λ o. leb o 2) refl (λ a o b f k. (cc, search rules)))
