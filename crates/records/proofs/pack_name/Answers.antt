-- `pack_name` writes its two numbers one after the other.
use mathlib.Core.Path.{ap, ◌∙◌}
use Prim.Native.Nat.{ℕ, ◌+◌, ◌*◌}
use native.Mathlib.Omega.{arith}
use Rattle.bits.specs.Field.{be, splice}
use Rattle.bits.proofs.Splice.{splice-splice}
use Rattle.paper.specs.Bytes.{bit}
use Rattle.records.proofs.pack_name.Goals as goal

pub returns : goal.returns
returns c =
    let c2 = c in
    let c1 = c2 in
    let s = c1 in
    let a = s.args in
    let word = be 4 (bit a.used * 2147483648 + a.id.0) in
    c2.put16.ensures
    ∙ ap (splice 4 (be 2 a.owner)) (c1.put32.ensures ∙ ap (λ (n : ℕ). splice 0 (be 4 n) a.r.now) c1.first_word.ensures)
    ∙ splice-splice 0 4 word (be 2 a.owner) a.r.now (omega arith) (omega arith)
