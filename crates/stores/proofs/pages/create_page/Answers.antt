-- `create_page` writes the slot that the search found, where its outcome lets it and there is one.
use Rattle.std.proofs.Common.{rules, ◌≡◌}
use native.Mathlib.Omega.{arith}
use Rattle.std.specs.Prelude.{Some}
use Rattle.paper.specs.Lists.{lowest}
use Rattle.paper.specs.Tables.{slot_free}
use Rattle.paper.specs.Bytes.{ps_from}
use Rattle.stores.proofs.Outcomes.{goes}
use Rattle.stores.proofs.Slots.{slot_room, created, found_slot}
use Rattle.stores.proofs.pages.create_page.Goals.{In_ok-n}
use Rattle.stores.proofs.pages.create_page.Goals as goal

found : (c : In_ok-n) → lowest (slot_free c.args.time) (ps_from c.args.bank c.args.pages.now) ≡ Some c.in_ok-n.n
found c = grind arith

pub put_slot-requires-clause-le_n : goal.put_slot-requires-clause-le_n
put_slot-requires-clause-le_n c =
    let h = found_slot _ _ _ _ (found (goal.at.put_slot-requires-clause-le_n c).In_ok-n) in
    (h.0, slot_room c.requires.geometry _ h.0 h.1)

pub overflow_cast-result : goal.overflow_cast-result
overflow_cast-result c = omega (arith, found_slot _ _ _ _ (found (goal.at.overflow_cast-result c).In_ok-n))

pub returns : goal.returns
returns c =
    let e = found (goal.at.returns c).In_ok-n in
    let h = found_slot _ _ _ _ e in
    goes _ _ c.allowed.ensures c.in_ok-allowed.was (created c.requires.geometry _ h.0 h.1 _ _ e c.put_slot.ensures (search rules) (search rules) c.requires.page_len)
