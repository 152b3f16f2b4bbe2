-- `header_lease` reads two fields of the record; in use is the first bit of its first word.
use mathlib.Core.Path.{ap, ◌∙◌}
use Rattle.paper.specs.Bytes.{header_from}
use Rattle.records.specs.Fits.{lease_of}
use Rattle.records.proofs.Read.{header_fields}
use Rattle.std.proofs.Common.{rules}
use Rattle.records.proofs.header_lease.Goals as goal

pub returns : goal.returns
returns c =
    (λ i. record { used = c.split_word-used.ensures.0 i; expires = c.be32.ensures i })
    ∙ ap lease_of (header_fields c.record-r.result.now (search rules) ∙ ap header_from c.record-r.ensures)
