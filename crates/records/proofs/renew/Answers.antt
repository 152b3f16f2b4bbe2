-- `renew` writes the second word.
use mathlib.Core.Path.{◌∙◌}
use Rattle.records.proofs.Write.{slot_renewed}
use Rattle.std.proofs.Common.{rules}
use Rattle.records.proofs.renew.Goals as goal

pub returns : goal.returns
returns c =
    let s = c in
    c.put32.ensures
    ∙ slot_renewed s.args.expires s.args.s.now (search rules) (λ i. search rules) s.requires
