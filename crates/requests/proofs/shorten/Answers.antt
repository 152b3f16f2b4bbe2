-- `shorten` replaces the header first, and then sets the pages that the old one named.
use mathlib.Core.Path.{◌≡◌}
use Prim.Native.Nat.{◌^◌, ◌<◌}
use native.Mathlib.Omega.{arith}
use Rattle.std.proofs.lemmas.Result.{err_from_is_err_and}
use Rattle.paper.specs.Tables.{header_at}
use Rattle.paper.specs.Bytes.{hs_from}
use Rattle.requests.proofs.Conditions.{at_slot}
use Rattle.requests.proofs.Fits.{read_fits, expiring_fits}
use Rattle.requests.proofs.Named.{read_named}
use Rattle.requests.proofs.Owned.{shorten_stops, shorten_stops_later, shorten_ends}
use Rattle.std.proofs.Common.{rules}
use Rattle.requests.proofs.shorten.Goals.{After-header-h}
use Rattle.requests.proofs.shorten.Goals as goal

pub replace_header-requires : goal.replace_header-requires
replace_header-requires c =
    let time : c.args.time < 2 ^ 32 = search rules in
    let expires : c.args.expires < 2 ^ 32 = search rules in
    (c.requires.whole, expiring_fits _ time _ c.header-h.result _ c.with_expiry-g.ensures expires (read_fits _ _ c.header-h.ensures))

-- the header in slot n, as it was read
read : (c : After-header-h) → c.header-h.result ≡ header_at (hs_from c.args.headers.now) c.args.slot.number
read c = at_slot _ c.args.slot _ c.header-h.ensures

pub returns-in_err-id : goal.returns-in_err-id
returns-in_err-id c =
    let r = err_from_is_err_and c.from_residual.result c.from_residual.ensures.1 in
    rw (r.1, r.2) (shorten_stops _ _ _ _ _ _ _ _ _ _ (read (goal.at.returns-in_err-id c).After-header-h) c.with_expiry-g.ensures _ c.in_err-id.ensures)

pub each_page-requires-clause-taken_in_bounds : goal.each_page-requires-clause-taken_in_bounds
each_page-requires-clause-taken_in_bounds c = (omega (arith, c.requires.steps), read_named _ _ _ _ _ _ c.requires c.header-h.ensures)

pub returns-in_err-each_page : goal.returns-in_err-each_page
returns-in_err-each_page c =
    let r = err_from_is_err_and c.from_residual-in_err-each_page.result c.from_residual-in_err-each_page.ensures.1 in
    rw (r.1, r.2)
    (shorten_stops_later _ _ _ _ _ _ _ _ _ _ (read (goal.at.returns-in_err-each_page c).After-header-h) c.with_expiry-g.ensures c.in_ok-id.id c.in_ok-id.ensures _ _ _ c.in_err-each_page.ensures.1)

pub returns : goal.returns
returns c =
    shorten_ends _ _ _ _ _ _ _ _ _ _ (read (goal.at.returns c).After-header-h) c.with_expiry-g.ensures c.in_ok-id.id c.in_ok-id.ensures _ _ _ c.in_ok-each_page.ensures.1
