-- `be32` reads the field of 32 bits: a field of four bytes is their sum, each times its place.
use native.Mathlib.Omega.{arith}
use Rattle.bits.proofs.Fields.{field_32}
use Rattle.bits.proofs.be32.Goals as goal

pub returns : goal.returns
returns c =
    let s = c in
    omega (arith, field_32 s.args.at s.args.s.now (λ i. (c.type_inv.s i).fits) s.requires)
