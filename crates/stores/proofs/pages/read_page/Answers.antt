-- `read_page` copies the contents of the slot that the page id names over the lent page, which is as long.
use mathlib.Core.Path.{sym, ap, ◌∙◌}
use native.Mathlib.Omega.{arith}
use lib.ListN.{length}
use Rattle.paper.specs.Tables.{Slot}
use Rattle.records.proofs.Places.{slot_place}
use Rattle.stores.proofs.Slots.{length_contents}
use Rattle.stores.proofs.pages.read_page.Goals as goal

pub copy_from_slice-requires : goal.copy_from_slice-requires
copy_from_slice-requires c = omega (arith, ap length c.contents.ensures ∙ length_contents c.requires.geometry c.from.result (omega arith) (omega arith))

pub returns-clause-lent_page : goal.returns-clause-lent_page
returns-clause-lent_page c =
    c.copy_from_slice.ensures.after
    ∙ (rw c.from.ensures at c.contents.ensures)
    ∙ ap (λ (s : Slot). s.contents) (sym (slot_place c.args.bank c.args.pages.now c.args.id.0 c.requires.le_id.0 c.requires.le_id.1))
