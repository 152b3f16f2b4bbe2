-- `put_control` writes the first two fields of the control record; the spare bits stay.
use mathlib.Core.Path.{ap, ◌∙◌}
use Rattle.bits.specs.Field.{be, splice}
use Rattle.records.proofs.Write.{control_over}
use Rattle.std.proofs.Common.{rules}
use Rattle.records.proofs.put_control.Goals as goal

pub returns : goal.returns
returns c =
    let c2 = c in
    let c1 = c2 in
    let s = c1 in
    let k = s.args.c in
    c2.put32-2.ensures ∙ ap (splice 4 (be 4 k.clock)) c1.put32.ensures
    ∙ control_over k s.args.headers.now (λ i. search rules) s.requires (search rules) (search rules)
