-- `control` reads the first two fields of the control record.
use mathlib.Core.Path.{ap, ◌∙◌}
use Rattle.paper.specs.Bytes.{control_from}
use Rattle.records.proofs.Read.{control_fields}
use Rattle.std.proofs.Common.{rules}
use Rattle.records.proofs.control.Goals as goal

pub returns : goal.returns
returns c =
    (λ i. record { next = c.be32.ensures i; clock = c.be32-2.ensures i })
    ∙ control_fields c.record-r.result.now (search rules) ∙ ap control_from c.record-r.ensures
