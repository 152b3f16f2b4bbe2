-- `put_header` writes the record at n times 36 and nothing else.
use Prim.Native.Nat.{◌*◌}
use native.Mathlib.Omega.{arith}
use Rattle.bits.proofs.Splice.{splice_range}
use Rattle.paper.specs.Bytes.{header_bytes}
use Rattle.records.proofs.Records.{header_length}
use Rattle.records.proofs.put_header.Goals as goal

pub returns : goal.returns
returns c =
    let s = c in
    let at = c.record_range.ensures in
    splice_range (s.args.n * 36) (header_bytes s.args.h) s.args.headers.now at.0 (omega (arith, at.1, header_length s.args.h)) c.pack_header.ensures
