-- `page_held` tests the head of the slot.
use Rattle.paper.specs.Bytes.{ps_from}
use Rattle.records.proofs.Places.{slot_place}
use Rattle.sound.proofs.Records.{held_by_head}
use Rattle.sound.proofs.page_held.Goals as goal

pub returns : goal.returns
returns c =
    let r = c.requires in
    let a = c.args in
    held_by_head a.bank (ps_from a.bank a.pages.now) a.expires a.n c.slot-s.result _ r.le_n.0 c.slot-s.ensures
    (slot_place a.bank a.pages.now a.n r.le_n.0 r.le_n.1)
