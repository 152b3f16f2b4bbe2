-- `tables_sound` tests S1 and S3, and then the headers: S2, S4 and S5.
use mathlib.Core.Path.{sym, ap, ◌∙◌}
use mathlib.Core.Bool.{◌&&◌}
use Rattle.paper.specs.declared.Control.{Control}
use Rattle.paper.specs.Lists.{distinct}
use Rattle.paper.specs.Bytes.{hs_from, ps_from, tables_from}
use Rattle.records.proofs.Places.{control_place}
use Rattle.sound.specs.Seen.{ids_in_use, all_pass}
use Rattle.sound.proofs.Sound.{control_breaks, slot_breaks, all_rules}
use Rattle.sound.proofs.tables_sound.Goals.{then-control_sound, else-control_sound}
use Rattle.sound.proofs.tables_sound.Goals as goal

pub returns-then-slots_sound : goal.returns-then-slots_sound
returns-then-slots_sound c =
    let a = c.args in
    let hs = (hs_from a.headers.now).headers in
    elim c.if-control_sound.branch [
      | then-control_sound w ↦
          c.headers_sound.ensures
          ∙ ap (λ (r : Control). all_pass a.bank r (ps_from a.bank a.pages.now) a.seen.now hs && distinct (ids_in_use hs)) (c.control.ensures ∙ control_place a.headers.now)
          ∙ all_rules a.bank (tables_from a.bank a.headers.now a.pages.now) a.seen.now c.requires.unmarked
          (sym w.if-control_sound.ensures) (sym w.slots_sound.ensures ∙ sym w.value-is ∙ c.if-slots_sound.true)
      | else-control_sound w ↦ cc
    ]

pub returns-else-slots_sound : goal.returns-else-slots_sound
returns-else-slots_sound c =
    let t = tables_from c.args.bank c.args.headers.now c.args.pages.now in
    elim c.if-control_sound.branch [
      | then-control_sound w ↦ c.if-slots_sound.false ∙ slot_breaks c.args.bank t (sym w.slots_sound.ensures ∙ sym w.value-is ∙ c.if-slots_sound.false)
      | else-control_sound w ↦ c.if-slots_sound.false ∙ control_breaks c.args.bank t (sym w.if-control_sound.ensures)
    ]
