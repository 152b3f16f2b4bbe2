-- `zeros` joins the bytes by or, and an or is 0 where both are.
use mathlib.Core.Path.{◌≡◌, refl, ap, ◌∙◌}
use lib.Bits.{bit_or}
use Rattle.paper.specs.Lists.{is_zero}
use Rattle.paper.proofs.Tests.{fold_all}
use Rattle.sound.proofs.Walks.{or_zero}
use Rattle.std.proofs.Common.{rules}
use Rattle.sound.proofs.zeros.Goals as goal

pub returns : goal.returns
returns c =
    fold_all c.fold.ensures.ran c.iter.ensures.rest is_zero is_zero refl
    (λ a x b f k. let e : b ≡ bit_or a x.now = search rules in (ap is_zero e ∙ or_zero a x.now, search rules))
