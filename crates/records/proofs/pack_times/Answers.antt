-- `pack_times` writes its three numbers one after the other.
use mathlib.Core.Path.{ap, ◌∙◌}
use mathlib.Core.List.{◌++◌}
use native.Mathlib.Omega.{arith}
use Rattle.bits.specs.Field.{be, splice}
use Rattle.bits.proofs.Splice.{splice-splice}
use Rattle.records.proofs.pack_times.Goals as goal

pub returns : goal.returns
returns c =
    let c3 = c in
    let c2 = c3 in
    let c1 = c2 in
    let s = c1 in
    let xs = s.args.r.now in
    let a = be 4 s.args.created in
    let b = be 4 s.args.updated in
    let e = be 4 s.args.expires in
    c3.put32-3.ensures ∙ ap (splice 14 e) (c2.put32-2.ensures ∙ ap (splice 10 b) c1.put32.ensures)
    ∙ ap (splice 14 e) (splice-splice 6 10 a b xs (omega arith) (omega arith)) ∙ splice-splice 6 14 (a ++ b) e xs (omega arith) (omega arith)
