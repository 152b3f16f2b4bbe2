-- `has_id` asks whether the slot is in use under the id, and only then for its lease.
use native.Mathlib.Omega.{arith}
use Rattle.records.proofs.Places.{header_place}
use Rattle.stores.proofs.headers.has_id.Goals as goal

pub returns-then-in_use_as : goal.returns-then-in_use_as
returns-then-in_use_as c = rw (header_place _ _ c.requires.1 c.requires.2) (grind arith)

pub returns-else-in_use_as : goal.returns-else-in_use_as
returns-else-in_use_as c = rw (header_place _ _ c.requires.1 c.requires.2) (grind arith)
