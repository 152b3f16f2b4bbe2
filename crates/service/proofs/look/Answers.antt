-- `look` refuses what Read would refuse before all else, and then looks as Read reads.
use Rattle.std.proofs.Common.{arith}
use Rattle.std.proofs.lemmas.Bool.Decides.{nat_tests}
use Rattle.service.proofs.Looking.{page_looked}
use Rattle.service.proofs.look.Goals as goal

pub returns-then-number-gt15 : goal.returns-then-number-gt15
returns-then-number-gt15 c = rw (page_looked _ _ _ _ _ _ _) (grind (arith, nat_tests))

pub returns : goal.returns
returns c = rw (page_looked _ _ _ _ _ _ _) (grind (arith, nat_tests))
