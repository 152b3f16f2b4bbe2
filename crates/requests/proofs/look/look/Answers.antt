-- `look` goes Read's way without steps: the page id by the header's id, then the slot's contents.
use Prim.Native.Nat.{ℕ, ◌≤◌}
use mathlib.Core.Path.{sym, ap, ◌∙◌}
use native.Mathlib.Omega.{arith}
use borrow.Author.Tests.{ne_eqb}
use Rattle.paper.specs.declared.PageId.{PageId}
use Rattle.paper.specs.Ids.{page_id}
use Rattle.paper.specs.Tables.{Slot, slot_at}
use Rattle.paper.specs.Bytes.{ps_from}
use Rattle.records.proofs.Places.{slot_place}
use Rattle.stores.proofs.Slots.{slot_room}
use Rattle.requests.proofs.Looks.{named_nowhere, named_there, named_in_bank}
use Rattle.requests.proofs.look.look.Goals.{After-from}
use Rattle.requests.proofs.look.look.Goals as goal

pub returns-then-p-eq0 : goal.returns-then-p-eq0
returns-then-p-eq0 c = named_nowhere _ _ _ _ _ _ _ (ap (λ (q : PageId). q.0) (sym c.named_page-p.ensures) ∙ c.if-p-eq0.true)

slot-named : (c : After-from) → c.from.result ≤ c.args.bank.slots
slot-named c =
    let e = ap (λ (q : PageId). q.0) c.named_page-p.ensures in
    let l = named_in_bank c.args.bank c.args.time c.args.id c.args.number _ _ c.requires.sound_tables in
    omega (arith, c.from.ensures, e, l)

pub contents-requires : goal.contents-requires
contents-requires c =
    let lo : 1 ≤ c.from.result = omega (arith, c.from.ensures, c.if-p-eq0.false) in
    (lo, slot_room c.requires.sound_tables.geometry _ lo (slot-named (goal.at.contents-requires c).After-from))

pub returns : goal.returns
returns c =
    let b = c.args.bank in
    let ps = ps_from b c.args.pages.now in
    let named : 1 ≤ c.from.result = omega (arith, c.from.ensures, c.if-p-eq0.false) in
    c.contents.ensures
    ∙ ap (λ (q : Slot). q.contents) (sym (slot_place b c.args.pages.now c.from.result named (slot-named (goal.at.returns c).After-from)))
    ∙ ap (λ (q : ℕ). (slot_at b ps (page_id q)).contents) c.from.ensures
    ∙ ap (λ (q : PageId). (slot_at b ps q).contents) c.named_page-p.ensures
    ∙ named_there _ _ _ _ _ _ _ (rw (← c.named_page-p.ensures) (ne_eqb _ _ c.if-p-eq0.false))
