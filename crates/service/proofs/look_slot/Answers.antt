-- `look_slot` refuses what Read would refuse before all else, and then finds the page id.
use Rattle.std.proofs.Common.{arith}
use Rattle.std.proofs.lemmas.Bool.Decides.{nat_tests}
use Rattle.service.proofs.Looking.{slot_looked}
use Rattle.service.proofs.look_slot.Goals as goal

pub returns-then-number-gt15 : goal.returns-then-number-gt15
returns-then-number-gt15 c = rw (slot_looked _ _ _ _ _ _) (grind (arith, nat_tests))

pub returns : goal.returns
returns c = rw (slot_looked _ _ _ _ _ _) (grind (arith, nat_tests))
