-- `slots_sound` tests the slots by their numbers.
use mathlib.Core.Path.{refl}
use Rattle.paper.specs.Tables.{no_slot}
use Rattle.paper.specs.Sound.{slot_sound, s3}
use Rattle.paper.specs.Bytes.{ps_from}
use Rattle.stores.proofs.Slots.{length_slots}
use Rattle.sound.proofs.Walks.{all_numbered}
use Rattle.std.proofs.Common.{rules}
use Rattle.sound.proofs.slots_sound.Goals as goal

pub returns : goal.returns
unfolding s3
returns c =
    let b = c.args.bank in
    let xs = c.args.pages.now in
    all_numbered slot_sound (no_slot b) (ps_from b xs) b.slots (length_slots b xs) c.all.ensures.ran refl (λ k t f r. search rules)
