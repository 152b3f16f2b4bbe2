-- `lowest_free_header` is `find` over the slots' numbers by each header's lease.
use mathlib.Core.Path.{refl}
use native.Mathlib.Omega.{arith}
use Rattle.std.proofs.Common.{rules}
use Rattle.records.proofs.Places.{header_place}
use Rattle.stores.proofs.HeaderSlots.{found_header}
use Rattle.stores.proofs.headers.lowest_free_header.Goals as goal

pub returns : goal.returns
returns c = found_header _ _ _ _ _ _ c.find.ensures.ran refl refl (λ n b q k. (search rules, λ lo hi. rw (header_place _ n lo hi) (grind arith)))
