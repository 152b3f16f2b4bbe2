-- `slot_sound` looks at the first word of the slot, and at all of it where that word is another.
use mathlib.Core.Path.{◌∙◌}
use Rattle.sound.proofs.Records.{slot_in_use, slot_otherwise}
use Rattle.sound.proofs.slot_sound.Goals as goal

pub returns-then-be32 : goal.returns-then-be32
returns-then-be32 c =
    slot_in_use c.requires.geometry (λ i. (c.type_inv.pages i).fits) c.args.n c.requires.le_n.0 c.requires.le_n.1 _ c.be32.ensures c.if-be32.true

pub returns-else-be32 : goal.returns-else-be32
returns-else-be32 c =
    c.zeros.ensures
    ∙ slot_otherwise c.requires.geometry (λ i. (c.type_inv.pages i).fits) c.args.n c.requires.le_n.0 c.requires.le_n.1 _ c.be32.ensures c.if-be32.false
