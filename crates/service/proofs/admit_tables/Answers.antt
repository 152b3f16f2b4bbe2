-- `admit_tables` looks in the definition's order: the lengths, the rules, the clock.
use borrow.Author.Tests.{lt-leb, le-leb}
use Rattle.paper.specs.Bytes.{hs_from}
use Rattle.service.specs.Border.{tables_refusal}
use Rattle.service.proofs.admit_tables.Goals as goal

pub returns-then-not-standard : goal.returns-then-not-standard
unfolding tables_refusal
returns-then-not-standard c =
    rw (← c.tables_fit.ensures, c.if-not-tables_fit.false, ← c.standard.ensures, c.if-not-standard.true)

pub returns-then-time-control : goal.returns-then-time-control
unfolding tables_refusal hs_from
returns-then-time-control c =
    rw (← c.tables_fit.ensures, c.if-not-tables_fit.false, ← c.standard.ensures, c.if-not-standard.false, lt-leb _ _ (rw c.control.ensures at c.if-time-control.true))

pub returns-else-time-control : goal.returns-else-time-control
unfolding tables_refusal hs_from
returns-else-time-control c =
    rw (← c.tables_fit.ensures, c.if-not-tables_fit.false, ← c.standard.ensures, c.if-not-standard.false, le-leb _ _ (rw c.control.ensures at c.if-time-control.false))
