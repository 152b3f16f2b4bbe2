-- `lowest_free_slot` is `find` over the slots' numbers by what each slot's head says.
use Rattle.std.proofs.Common.{rules}
use mathlib.Core.Path.{refl}
use native.Mathlib.Omega.{arith}
use Rattle.paper.specs.Tables.{no_slot}
use Rattle.records.proofs.Places.{slot_place}
use Rattle.stores.proofs.Search.{found_lowest}
use Rattle.stores.proofs.Slots.{length_slots}
use Rattle.stores.proofs.pages.lowest_free_slot.Goals as goal

pub returns : goal.returns
returns c = found_lowest _ (no_slot c.args.bank) _ _ _ _ _ c.find.ensures.ran refl (omega (arith, length_slots)) (λ n b q k. (search rules, λ lo hi. rw (slot_place c.args.bank c.args.pages.now n lo (omega (arith, length_slots))) (grind arith)))
