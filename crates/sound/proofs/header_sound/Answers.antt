-- `header_sound` looks at the first word of the record, and at all of it where it is not in use.
use Prim.Native.Nat.{◌*◌, ◌<◌}
use mathlib.Core.Path.{◌≡◌}
use mathlib.Core.Bool.{Bool, true, false, cond}
use Rattle.std.specs.Prelude.{Ok, Err, None}
use Rattle.paper.specs.Lists.{all, is_zero}
use Rattle.paper.specs.Tables.{header_at}
use Rattle.paper.specs.Bytes.{hs_from, ps_from}
use Rattle.sound.proofs.Records.{part}
use Rattle.sound.proofs.Headers.{Told, word_in_use, word_unused, not_in_use}
use Rattle.sound.proofs.header_sound.Goals.{Then-be32-lt2147483648}
use Rattle.sound.proofs.header_sound.Goals as goal

-- what is told of a slot that is not in use, by whether its bytes are all zero
told : (t : Then-be32-lt2147483648) → t.be32.result < 2147483648 → (z : Bool) → z ≡ all is_zero (part (t.args.n * 36) 36 t.args.headers.now)
    → Told t.args.bank t.args.c (ps_from t.args.bank t.args.pages.now) t.args.seen.now (header_at (hs_from t.args.headers.now) t.args.n) (cond z (Ok None) (Err (record {}))) t.args.seen.now
told t small z e =
    let xs = t.args.headers.now in
    let n = t.args.n in
    let r = t.requires.headers_len in
    not_in_use _ _ _ _ xs (λ i. (t.type_inv.headers i).fits) r.0 n r.1 r.2 (word_unused xs r.0 n r.1 r.2 _ t.be32.ensures small) z e

pub returns-then-zeros : goal.returns-then-zeros
returns-then-zeros c =
    let e = told (goal.at.returns-then-zeros c).Then-be32-lt2147483648 c.if-be32-lt2147483648.true true c.if-zeros.ensures in
    record { value = e.0; marks = e.1 }

pub returns-else-zeros : goal.returns-else-zeros
returns-else-zeros c =
    let e = told (goal.at.returns-else-zeros c).Then-be32-lt2147483648 c.if-be32-lt2147483648.true false c.if-zeros.ensures in
    record { value = e.0; marks = e.1 }

pub named_sound-requires-clause-in_use : goal.named_sound-requires-clause-in_use
named_sound-requires-clause-in_use c =
    let r = c.requires.headers_len in
    word_in_use c.args.headers.now r.0 c.args.n r.1 r.2 _ c.be32.ensures c.if-be32-lt2147483648.false
