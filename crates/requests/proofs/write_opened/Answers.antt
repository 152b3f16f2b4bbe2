-- `write_opened` stores a page, replaces the header by one that names it, and clears the page that the old one named.
use mathlib.Core.Path.{◌≡◌}
use Prim.Native.Nat.{◌^◌, ◌<◌}
use native.Mathlib.Omega.{arith}
use Rattle.std.proofs.lemmas.Result.{err_from_is_err_and}
use Rattle.paper.specs.Tables.{header_at}
use Rattle.paper.specs.Bytes.{hs_from}
use Rattle.requests.proofs.Conditions.{created_slot, at_slot}
use Rattle.requests.proofs.Fits.{read_fits, paged_fits}
use Rattle.requests.proofs.Named.{page_read_named}
use Rattle.requests.proofs.Owned.{write_stops_second, write_stops_third, write_stops_last, write_ends}
use Rattle.std.proofs.Common.{rules}
use Rattle.requests.proofs.write_opened.Goals.{After-header-h}
use Rattle.requests.proofs.write_opened.Goals as goal

-- the header in slot n, as it was read
read : (c : After-header-h) → c.header-h.result ≡ header_at (hs_from c.args.headers.now) c.args.slot.number
read c = at_slot _ c.args.slot _ c.header-h.ensures

pub returns-in_err-p : goal.returns-in_err-p
returns-in_err-p c =
    let r = err_from_is_err_and c.from_residual.result c.from_residual.ensures.1 in
    rw (r.1, r.2) (write_stops_second _ _ _ _ _ _ _ _ _ _ (read (goal.at.returns-in_err-p c).After-header-h) _ c.in_err-p.ensures)

pub replace_header-requires : goal.replace_header-requires
replace_header-requires c =
    let o = c.requires.opened in
    let i = created_slot _ _ _ _ _ _ _ _ c.in_ok-p.ensures in
    let few : c.in_ok-p.p.0 < 2 ^ 9 = omega (arith, o.geometry.few) in
    let time : c.args.time < 2 ^ 32 = search rules in
    (o.whole, paged_fits _ time c.args.number _ c.header-h.result _ c.with_page-g.ensures few (read_fits _ _ c.header-h.ensures))

pub returns-in_err-id : goal.returns-in_err-id
returns-in_err-id c =
    let r = err_from_is_err_and c.from_residual-in_err-id.result c.from_residual-in_err-id.ensures.1 in
    rw (r.1, r.2)
    (write_stops_third _ _ _ _ _ _ _ _ _ _ (read (goal.at.returns-in_err-id c).After-header-h) c.in_ok-p.p _ c.in_ok-p.ensures c.with_page-g.ensures _ _ c.in_err-id.ensures)

pub one_page-requires-clause-taken_in_bounds : goal.one_page-requires-clause-taken_in_bounds
one_page-requires-clause-taken_in_bounds c =
    let o = c.requires.opened in
    (omega (arith, o.steps), page_read_named _ _ _ _ _ _ _ _ o c.header-h.ensures c.page-former.ensures)

pub returns-in_err-one_page : goal.returns-in_err-one_page
returns-in_err-one_page c =
    let r = err_from_is_err_and c.from_residual-in_err-one_page.result c.from_residual-in_err-one_page.ensures.1 in
    rw (r.1, r.2)
    (write_stops_last _ _ _ _ _ _ _ _ _ _ (read (goal.at.returns-in_err-one_page c).After-header-h) c.in_ok-p.p _ c.in_ok-p.ensures c.with_page-g.ensures _
    c.in_ok-id.id c.in_ok-id.ensures _ c.page-former.ensures _ _ _ c.in_err-one_page.ensures.1)

pub returns : goal.returns
returns c =
    write_ends _ _ _ _ _ _ _ _ _ _ (read (goal.at.returns c).After-header-h) c.in_ok-p.p _ c.in_ok-p.ensures c.with_page-g.ensures _
    c.in_ok-id.id c.in_ok-id.ensures _ c.page-former.ensures _ _ _ c.in_ok-one_page.ensures.1
