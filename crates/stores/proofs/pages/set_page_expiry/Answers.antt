-- `set_page_expiry` writes another expiry into the slot that the page id names, where its outcome lets it.
use Rattle.std.proofs.Common.{rules}
use Rattle.stores.proofs.Outcomes.{goes}
use Rattle.stores.proofs.Slots.{renewed}
use Rattle.stores.proofs.pages.set_page_expiry.Goals as goal

pub returns : goal.returns
returns c = goes _ _ c.allowed.ensures c.in_ok-allowed.was (renewed c.requires.geometry _ c.requires.le_id.0 c.requires.le_id.1 (rw c.from.ensures at c.put_expires.ensures) (search rules) (search rules))
