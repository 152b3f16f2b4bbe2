-- The refusal before all else is the definition's, and where there is none all that it looks at holds.
-- Assumes nothing.
use Prim.Native.Nat.{ℕ, ◌≤◌}
use mathlib.Core.Path.{◌≡◌}
use mathlib.Core.Bool.{true, cond}
use mathlib.Core.List.{List}
use native.Mathlib.Omega.{arith}
use lib.Dec.{eqb, leb}
use lib.ListN.{length}
use borrow.Author.Tests.{eqb-true, leb-true}
use Rattle.std.specs.Prelude.{Ok, Err}
use Rattle.std.proofs.lemmas.Bool.Decides.{nat_tests}
use Rattle.paper.specs.declared.Bank.{Bank}
use Rattle.paper.specs.declared.PageNum.{PageNum}
use Rattle.paper.specs.declared.Refusal.TheVariants.{BadCall}
use Rattle.paper.specs.Lists.{all}
use Rattle.paper.specs.Answers.{Request, lent_page}
use Rattle.paper.specs.Requests.{page_fits, outcomes_fit, well_formed, checked, carry_out}
use Rattle.paper.specs.Bytes.{headers_length, pages_length, tables_from}
use Rattle.paper.specs.Service.{untouched, written, tables_fit, refusal, serve_bytes}
use Rattle.paper.proofs.Tests.{both}
use Rattle.service.specs.Border.{tables_refusal, admission}

-- a wrong length and a malformed request are both BadCall, whichever is looked at first
pub admits : (b : Bank) (now : ℕ) (os : List ℕ) (r : Request) (headers pages : List ℕ) → refusal b now os r headers pages ≡ cond (well_formed b r) (admission b now os headers pages) (Err BadCall)
unfolding refusal checked admission tables_refusal
admits b now os r headers pages = grind arith

pub page_fits_lem : (b : Bank) (number : PageNum) (page : List ℕ) → page_fits b number page ≡ true → (number.0 ≤ 15) × (length page ≡ b.size)
unfolding page_fits
page_fits_lem b number page e =
    let fits = both (leb number.0 15) (eqb (length page) b.size) e in
    (leb-true number.0 15 fits.0, eqb-true (length page) b.size fits.1)

pub serves : (b : Bank) (now : ℕ) (os : List ℕ) (r : Request) (headers pages : List ℕ) → serve_bytes b now os r headers pages
    ≡ elim (cond (well_formed b r) (admission b now os headers pages) (Err BadCall)) [
      | Ok u ↦ written (carry_out b now os r (tables_from b headers pages))
      | Err a ↦ untouched a (lent_page r) headers pages
    ]
unfolding serve_bytes
serves b now os r headers pages = rw (serve_bytes, admits b now os r headers pages)

-- what is carried out has tables of the right lengths and a whole outcome list, and is not refused by its tables
pub admitted : (b : Bank) (now : ℕ) (os headers pages : List ℕ) → admission b now os headers pages ≡ Ok tt
    → (length headers ≡ headers_length) × (length pages ≡ pages_length b) × (length os ≡ 18) × (tables_refusal b now headers pages ≡ Ok tt)
unfolding admission tables_refusal
admitted b now os headers pages e =
    let fits : outcomes_fit os ≡ true = grind (arith, nat_tests) in
    let whole = both (eqb (length os) 18) (all (λ o. leb o 2) os) fits in
    (grind (arith, nat_tests), grind (arith, nat_tests), eqb-true (length os) 18 whole.0, grind (arith, nat_tests))
