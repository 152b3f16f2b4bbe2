-- `pack_header` writes the record in three parts.
use mathlib.Core.Path.{refl, sym, ap, ◌∙◌}
use mathlib.Core.List.{◌++◌}
use Prim.Native.Nat.{◌+◌, ◌*◌}
use native.Mathlib.Omega.{arith}
use Rattle.bits.specs.Field.{be, pack, splice, nines}
use Rattle.bits.proofs.Within.{within_head, within_tail}
use Rattle.bits.proofs.Layouts.{length_pack}
use Rattle.paper.specs.Bytes.{bit, ids_of}
use Rattle.records.proofs.Write.{header_parts_lem, three_parts}
use Rattle.records.proofs.pack_header.Goals as goal

pub pack_name-requires : goal.pack_name-requires
pack_name-requires c = (omega arith, within_head (within_tail c.requires.1))

pub pack_pages-requires : goal.pack_pages-requires
pack_pages-requires c =
    let s = c in
    (omega arith, within_tail (within_tail (within_tail (within_tail (within_tail (within_tail s.requires.1))))))

pub returns : goal.returns
returns c =
    let c3 = c in
    let c2 = c3 in
    let c1 = c2 in
    let s = c1 in
    let h = s.args.h in
    let xs = s.args.r.now in
    let name = be 4 (bit h.used * 2147483648 + h.id.0) ++ be 2 h.owner in
    let times = be 4 h.created ++ (be 4 h.updated ++ be 4 h.expires) in
    let pages = pack nines (ids_of h.pages) in
    c3.pack_pages.ensures ∙ ap (splice 18 pages) (c2.pack_times.ensures ∙ ap (splice 6 times) c1.pack_name.ensures)
    ∙ three_parts name times pages xs refl refl (length_pack nines 18 refl (ids_of h.pages)) s.requires.0 ∙ sym (header_parts_lem h s.requires.1)
