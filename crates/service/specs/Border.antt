-- What the borders' contracts speak of: a report with the bytes that are left, and the refusal before all else.
use Rattle.std.specs.Prelude.{ℕ, cond, List, leb, Result, Ok, Err}
use Rattle.paper.specs.declared.Bank.{Bank}
use Rattle.paper.specs.declared.Refusal.{Refusal}
use Rattle.paper.specs.declared.Refusal.TheVariants.{BadCall, Damaged, ClockBack}
use Rattle.paper.specs.Tables.{clock_of}
use Rattle.paper.specs.Sound.{sound}
use Rattle.paper.specs.Answers.{Report}
use Rattle.paper.specs.Requests.{outcomes_fit}
use Rattle.paper.specs.Bytes.{tables_from}
use Rattle.paper.specs.Service.{Left, tables_fit}

abbrev pub left : Report → List ℕ → List ℕ → List ℕ → Left
left r page headers pages = record { report = r; page = page; headers = headers; pages = pages }

-- BadCall, Damaged or ClockBack by the tables and the time alone
unfoldable pub tables_refusal : Bank → ℕ → List ℕ → List ℕ → Result (Unit {0}) Refusal
tables_refusal b now headers pages =
    let t = tables_from b headers pages in
    cond (tables_fit b headers pages) (cond (sound b t) (cond (leb (clock_of t) now) (Ok tt) (Err ClockBack)) (Err Damaged)) (Err BadCall)

-- the same with an outcome list
unfoldable pub admission : Bank → ℕ → List ℕ → List ℕ → List ℕ → Result (Unit {0}) Refusal
admission b now os headers pages = cond (outcomes_fit os) (tables_refusal b now headers pages) (Err BadCall)
