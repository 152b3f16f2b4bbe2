-- `numbers` maps each page id to its number.
use mathlib.Core.Path.{◌≡◌, sym, ◌∙◌}
use native.Mathlib.Omega.{arith}
use lib.ListN.{length, get_or, length-map, get_or-map}
use Rattle.paper.specs.declared.PageId.{PageId}
use Rattle.paper.specs.Ids.{page_id}
use Rattle.paper.specs.Bytes.{ids_of}
use Rattle.std.proofs.Common.{rules}
use Rattle.std.proofs.lemmas.List.{ext_get_or}
use Rattle.records.proofs.numbers.Goals as goal

pub returns : goal.returns
returns c =
    let pages = c.args.pages in
    let made = c.map.ensures.items in
    let long : length pages ≡ 16 = search rules in
    ext_get_or 0 c.map.result (ids_of pages) (omega (arith, made.long, length-map pages (λ (p : PageId). p.0), long)) (λ i h.
    let called = made.at i (page_id 0) 0 (omega (arith, made.long, h)) in
    let e : get_or c.map.result i 0 ≡ (get_or pages i (page_id 0)).0 = search rules in
    e ∙ sym (get_or-map (λ (p : PageId). p.0) pages i (page_id 0)))
