-- `in_use_as` goes by the first word: in use is its first bit, the id the 31 after it.
use mathlib.Core.Path.{◌≡◌, ap, ◌∙◌}
use mathlib.Core.List.{List}
use Prim.Native.Nat.{ℕ, ◌*◌}
use native.Mathlib.Omega.{arith}
use lib.ListN.{length, take, drop, length-drop}
use lib.Seq.{length-take-le}
use Rattle.paper.specs.Bytes.{header_from}
use Rattle.records.specs.Fits.{in_use_as}
use Rattle.records.proofs.Read.{large_unused, whole_word}
use Rattle.std.proofs.Common.{rules}
use Rattle.std.proofs.lemmas.Bool.{le-ltb}
use Rattle.records.proofs.in_use_as.Goals as goal

pub returns-then-id-lt2147483648 : goal.returns-then-id-lt2147483648
returns-then-id-lt2147483648 c =
    let w = c in
    whole_word w.record-r.result.now (search rules) w.args.id _ w.be32.ensures (omega (arith, w.if-id-lt2147483648.true))
    ∙ ap (λ (r : List ℕ). in_use_as w.args.id (header_from r)) w.record-r.ensures

pub returns-else-id-lt2147483648 : goal.returns-else-id-lt2147483648
returns-else-id-lt2147483648 c =
    let rest = drop (c.args.n * 36) c.args.headers.now in
    let long : length (take 36 rest) ≡ 36 = length-take-le 36 rest (omega (arith, length-drop (c.args.n * 36) c.args.headers.now)) in
    le-ltb c.args.id.0 2147483648 c.if-id-lt2147483648.false ∙ large_unused (take 36 rest) long c.args.id (omega (arith, c.if-id-lt2147483648.false))
