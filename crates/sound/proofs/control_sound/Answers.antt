-- `control_sound` tests the next id, and the bytes of the spare bits.
use mathlib.Core.Path.{◌∙◌}
use Rattle.sound.proofs.Records.{next_breaks, next_fits}
use Rattle.sound.proofs.control_sound.Goals as goal

pub returns-then-c-le2147483648 : goal.returns-then-c-le2147483648
returns-then-c-le2147483648 c = c.zeros.ensures ∙ next_fits _ _ c.control-c.ensures (λ i. (c.type_inv.headers i).fits) c.requires c.if-c-le2147483648.true

pub returns-else-c-le2147483648 : goal.returns-else-c-le2147483648
returns-else-c-le2147483648 c = cc (next_breaks _ _ c.control-c.ensures c.if-c-le2147483648.either)
