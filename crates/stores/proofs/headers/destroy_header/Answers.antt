-- `destroy_header` writes zeros over the slot, where its outcome lets it.
use Rattle.stores.proofs.Outcomes.{goes}
use Rattle.stores.proofs.HeaderSlots.{destroyed}
use Rattle.stores.proofs.headers.destroy_header.Goals as goal

pub returns : goal.returns
returns c = goes _ _ c.allowed.ensures c.in_ok-allowed.was (destroyed _ _ _ c.requires.0 c.requires.1 c.requires.2 c.zero_header.ensures)
