-- From the records that a request leaves to the bytes that its border leaves.
-- Assumes nothing.
use Prim.Native.Nat.{ℕ}
use mathlib.Core.Path.{◌≡◌, sym, ap, ◌∙◌}
use mathlib.Core.Bool.{true}
use mathlib.Core.List.{List}
use lib.ListN.{length}
use Rattle.std.specs.Prelude.{Result, Ok}
use Rattle.bits.specs.Field.{Bytes}
use Rattle.paper.specs.declared.Bank.{Bank}
use Rattle.paper.specs.declared.Refusal.{Refusal}
use Rattle.paper.specs.Answers.{Request, Report}
use Rattle.paper.specs.Requests.{well_formed, carry_out}
use Rattle.paper.specs.Bytes.{header_table, page_table, tables_from}
use Rattle.paper.specs.Service.{Left, serve_bytes}
use Rattle.records.proofs.Tables.{hs_written, ps_written}
use Rattle.requests.specs.Seen.{Shown, shown, shows}
use Rattle.service.specs.Border.{left, admission}
use Rattle.service.proofs.Admission.{serves, admitted}

-- what was seen, as bytes
abbrev bytes_of : Shown → Left
bytes_of s = record { report = s.report; page = s.page; headers = header_table s.tables.hs; pages = page_table s.tables.ps }

pub carried_out : (b : Bank) (now : ℕ) (os headers pages : List ℕ) (x : Result (Unit {0}) Refusal) (r : Request) (a : Report) (page hx px : List ℕ)
    → x ≡ admission b now os headers pages → x ≡ Ok tt → well_formed b r ≡ true → Bytes hx → length hx ≡ length headers → Bytes px → length px ≡ length pages
    → shows a page (tables_from b hx px) ≡ shown (carry_out b now os r (tables_from b headers pages))
    → left a page hx px ≡ serve_bytes b now os r headers pages
carried_out b now os headers pages x r a page hx px looked e formed bh lh bp lp s =
    let ok : admission b now os headers pages ≡ Ok tt = sym looked ∙ e in
    let fit = admitted b now os headers pages ok in
    let back : left a page hx px ≡ bytes_of (shows a page (tables_from b hx px)) =
    λ i. left a page (sym (hs_written hx bh (lh ∙ fit.0)) i) (sym (ps_written b px bp (lp ∙ fit.1)) i) in
    rw (serves b now os r headers pages, formed, ok) (back ∙ ap bytes_of s)
