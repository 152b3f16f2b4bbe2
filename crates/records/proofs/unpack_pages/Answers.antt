-- `unpack_pages` reads the sixteen nine-bit fields.
use mathlib.Core.Path.{◌≡◌, ap, ◌∙◌}
use Prim.Native.Nat.{◌<◌, ◌+◌, ◌*◌}
use native.Mathlib.Omega.{arith}
use lib.ListN.{get_or}
use Rattle.bits.specs.Field.{field}
use Rattle.paper.specs.declared.Header.{Header}
use Rattle.paper.specs.Ids.{page_id}
use Rattle.std.proofs.Common.{rules}
use Rattle.std.proofs.lemmas.List.{ext_get_or}
use Rattle.records.proofs.Read.{header_fields, pages_in, page_at_lem}
use Rattle.records.proofs.unpack_pages.Goals as goal

pub returns : goal.returns
returns c =
    let s = c in
    let r = s.args.r.now in
    let made = c.from_fn.ensures.items in
    ext_get_or (page_id 0) c.from_fn.result (pages_in r) made.long (λ i h.
    let k : i < 16 = omega (arith, made.long, h) in
    let called = made.at i (page_id 0) k in
    let e : get_or c.from_fn.result i (page_id 0) ≡ page_id (field (8 * 18 + 9 * i) 9 r) = search rules in
    e ∙ page_at_lem r i k)
    ∙ ap (λ (h : Header). h.pages) (header_fields r (search rules))
