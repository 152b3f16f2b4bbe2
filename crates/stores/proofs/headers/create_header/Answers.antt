-- What the search found is a slot.
use Rattle.std.proofs.Common.{arith}
use Rattle.paper.specs.Tables.{header_free}
use Rattle.stores.proofs.HeaderSlots.{found_slot}
use Rattle.stores.proofs.headers.create_header.Goals as goal

pub invariant_of-store_header : goal.invariant_of-store_header
invariant_of-store_header c = record { within = found_slot (header_free c.args.time) c.args.headers.now c.in_ok-n.n (grind arith) }
