-- `find_header` is `find` over the slots' numbers by `has_id`.
use mathlib.Core.Path.{refl}
use native.Mathlib.Omega.{arith}
use Rattle.std.proofs.Common.{rules}
use Rattle.stores.proofs.HeaderSlots.{found_header}
use Rattle.stores.proofs.headers.find_header.Goals as goal

pub returns : goal.returns
returns c = found_header _ _ _ _ _ _ c.find.ensures.ran refl refl (λ n b q k. (search rules, λ lo hi. grind arith))
