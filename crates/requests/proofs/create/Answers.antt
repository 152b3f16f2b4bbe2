-- `create` stores a page, and then a header that names it; each return is one of the ends of its two steps.
use mathlib.Core.Path.{◌∙◌}
use Prim.Native.Nat.{◌^◌, ◌<◌}
use native.Mathlib.Omega.{arith}
use Rattle.std.proofs.lemmas.Result.{err_from_is_err_and}
use Rattle.records.specs.Fits.{HeaderFits}
use Rattle.requests.proofs.Conditions.{created_slot}
use Rattle.requests.proofs.Fits.{made_fits, paged_fits}
use Rattle.requests.proofs.Replies.{create_stops, create_ends}
use Rattle.std.proofs.Common.{rules}
use Rattle.requests.proofs.create.Goals as goal

pub returns-in_err-p : goal.returns-in_err-p
returns-in_err-p c =
    let r = err_from_is_err_and c.from_residual.result c.from_residual.ensures.1 in
    rw (r.1, r.2) (create_stops _ _ _ _ _ _ _ _ _ _ _ _ c.set_clock.ensures c.max-e.ensures _ c.in_err-p.ensures)

pub create_header-requires : goal.create_header-requires
create_header-requires c =
    let i = created_slot _ _ _ _ _ _ _ _ c.in_ok-p.ensures in
    let few : c.in_ok-p.p.0 < 2 ^ 9 = omega (arith, c.requires.sound_tables.geometry.few) in
    let time : c.args.time < 2 ^ 32 = search rules in
    let expires : c.args.expires < 2 ^ 32 = search rules in
    let client : c.args.client < 2 ^ 16 = search rules in
    let late : c.max-e.result < 2 ^ 32 = omega (arith, c.max-e.ensures) in
    let made : HeaderFits c.new.result = made_fits _ time _ _ _ c.new.ensures client late in
    (c.set_clock.auto.headers ∙ c.requires.sound_tables.whole, paged_fits _ time c.args.number _ c.new.result _ c.with_page-h.ensures few made)

pub returns : goal.returns
returns c =
    create_ends _ _ _ _ _ _ _ _ _ _ _ _ c.set_clock.ensures c.max-e.ensures c.in_ok-p.p _ _ _ _ c.in_ok-p.ensures c.new.ensures c.with_page-h.ensures c.create_header.ensures
