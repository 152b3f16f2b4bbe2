-- `format` writes zeros over both tables and the first control record into them.
use mathlib.Core.Path.{◌∙◌, ap, sym}
use Prim.Native.Nat.{ℕ}
use lib.ListN.{replicate}
use Rattle.requests.proofs.Fresh.{fresh_headers, fresh_pages}
use Rattle.requests.proofs.format.format.Goals as goal

pub returns : goal.returns
returns c =
    let b = c.args.bank in
    record {
      headers_after = fresh_headers b c.args.headers.now c.requires.0 _ _ c.zero.ensures c.put_control.ensures;
      pages_after = c.zero-2.ensures ∙ ap (λ (m : ℕ). replicate m 0) c.requires.1.whole ∙ sym (fresh_pages b);
    }
