-- `slot` reads the first eight bytes of slot n; in use and the spare bits share the first word.
use mathlib.Core.Path.{◌≡◌, ap, ◌∙◌}
use Prim.Native.Nat.{◌+◌, ◌-◌, ◌*◌}
use lib.ListN.{take, drop}
use Rattle.paper.specs.Bytes.{slot_from}
use Rattle.records.specs.Fits.{head_of}
use Rattle.records.proofs.Read.{slot_fields}
use Rattle.std.proofs.Common.{rules}
use Rattle.records.proofs.slot.Goals as goal

pub returns : goal.returns
returns c =
    let s = c in
    let part = take (c.slot_range.result.end - c.slot_range.result.start) (drop c.slot_range.result.start s.args.pages.now) in
    let same : part ≡ take (8 + s.args.size) (drop ((s.args.n - 1) * (8 + s.args.size)) s.args.pages.now) = search rules in
    (λ i. record {
      lease = record { used = c.split_word-used.ensures.0 i; expires = c.be32-expires.ensures i };
      spare = c.split_word-used.ensures.1 i;
    })
    ∙ ap head_of (slot_fields part (search rules) ∙ ap slot_from same)
