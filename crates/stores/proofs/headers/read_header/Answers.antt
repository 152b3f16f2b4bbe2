-- What the search found is a slot.
use mathlib.Core.Path.{sym, ◌∙◌}
use Rattle.stores.proofs.HeaderSlots.{found_slot}
use Rattle.stores.proofs.headers.read_header.Goals as goal

pub invariant_of-result : goal.invariant_of-result
invariant_of-result c = record { within = found_slot _ _ _ (sym c.find_header.ensures ∙ c.in-Some.is) }
