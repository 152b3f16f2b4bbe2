-- `set_expiry` goes by whether the expiry is at least that of the header opened.
use mathlib.Core.Path.{◌≡◌}
use Rattle.std.proofs.lemmas.Result.{err_from_is_err_and}
use Rattle.paper.specs.Tables.{header_at}
use Rattle.paper.specs.Bytes.{hs_from}
use Rattle.requests.specs.Seen.{Opened}
use Rattle.requests.proofs.Conditions.{at_slot}
use Rattle.requests.proofs.Named.{opens}
use Rattle.requests.proofs.Owned.{set_expiry_stops, set_expiry_longer, set_expiry_shorter}
use Rattle.requests.proofs.set_expiry.Goals.{In_ok-slot, After-header}
use Rattle.requests.proofs.set_expiry.Goals as goal

pub returns-in_err-slot : goal.returns-in_err-slot
returns-in_err-slot c =
    let r = err_from_is_err_and c.from_residual.result c.from_residual.ensures.1 in
    rw (r.1, r.2) (set_expiry_stops _ _ _ _ _ _ _ _ _ c.open.ensures.headers_after _ (c.in_err-slot.ensures.steps _))

held : (c : After-header) → c.header.result ≡ header_at (hs_from c.open.new.headers) c.in_ok-slot.slot.number
held c = at_slot _ c.in_ok-slot.slot _ c.header.ensures

opened : (c : In_ok-slot) → Opened c.args.bank c.in_ok-slot.slot c.open.new.headers c.args.pages.now c.args.outcomes.now
opened c = opens _ _ _ _ _ _ _ c.requires.sound_tables c.requires.outcomes_len c.open.auto.headers c.open.ensures.headers_after

pub lengthen-requires : goal.lengthen-requires
lengthen-requires c = opened (goal.at.lengthen-requires c).In_ok-slot

pub shorten-requires : goal.shorten-requires
shorten-requires c = opened (goal.at.shorten-requires c).In_ok-slot

pub returns-then-header-e : goal.returns-then-header-e
returns-then-header-e c =
    set_expiry_longer _ _ _ _ _ _ _ _ _ c.open.ensures.headers_after _ _ _ _ (c.in_ok-slot.ensures.steps _) (held (goal.at.returns-then-header-e c).After-header) c.max-e.ensures
    c.if-header-e.true c.lengthen.ensures

pub returns-else-header-e : goal.returns-else-header-e
returns-else-header-e c =
    set_expiry_shorter _ _ _ _ _ _ _ _ _ c.open.ensures.headers_after _ _ _ _ (c.in_ok-slot.ensures.steps _) (held (goal.at.returns-else-header-e c).After-header) c.max-e.ensures
    c.if-header-e.false c.shorten.ensures
