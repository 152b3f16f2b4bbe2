-- `destroy_page` writes zeros over the slot that the page id names, where its outcome lets it.
use Rattle.stores.proofs.Outcomes.{goes}
use Rattle.stores.proofs.Slots.{destroyed}
use Rattle.stores.proofs.pages.destroy_page.Goals as goal

pub returns : goal.returns
returns c = goes _ _ c.allowed.ensures c.in_ok-allowed.was (destroyed c.requires.geometry _ c.requires.le_id.0 c.requires.le_id.1 (rw c.from.ensures at c.zero_slot.ensures))
