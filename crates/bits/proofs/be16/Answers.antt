-- `be16` reads the field of 16 bits: a field of two bytes is the first times 256 and the second.
use native.Mathlib.Omega.{arith}
use Rattle.bits.proofs.Fields.{field_16}
use Rattle.bits.proofs.be16.Goals as goal

pub returns : goal.returns
returns c =
    let s = c in
    omega (arith, field_16 s.args.at s.args.s.now (λ i. (c.type_inv.s i).fits) s.requires)
