-- `store_header` reads the control record, writes the next one, and then the header into the slot; at the last id it writes neither.
use native.Mathlib.Omega.{arith}
use Rattle.paper.specs.Steps.{attempt, tried, allowed}
use Rattle.stores.proofs.HeaderSlots.{no_ids, replaced, named_fits, issued_below}
use Rattle.stores.proofs.headers.store_header.Goals as goal

pub returns-then-c-ge2147483648 : goal.returns-then-c-ge2147483648
unfolding attempt tried allowed
returns-then-c-ge2147483648 c = rw (no_ids _ _ _ _ c.control-c.ensures c.if-c-ge2147483648.true)

pub put_header-requires : goal.put_header-requires
put_header-requires c = (omega arith, named_fits _ c.args.h c.requires.1 (issued_below _ _ c.issue-issued.ensures c.if-c-ge2147483648.false))

pub returns : goal.returns
unfolding attempt tried allowed
returns c = rw (replaced _ _ _ _ c.control-c.ensures _ c.issue-issued.ensures c.requires.0 c.args.slot.within.0 c.args.slot.within.1 c.requires.1 c.if-c-ge2147483648.false _ _ c.put_control.ensures c.put_control.auto.headers c.put_header.ensures)
