-- `nine` reads the field of 9 bits: it is a part of the 16 bits that `be16` reads, with 7 - k % 8 bits after it.
use native.Mathlib.Omega.{arith}
use Rattle.bits.proofs.Fields.{field_part}
use Rattle.bits.proofs.nine.Goals as goal

pub returns : goal.returns
returns c = rw c.be16.ensures (field_part _ 16 _ 9 _ _ (omega arith) (omega arith) (omega arith))
