use Prim.Native.Nat.{◌≤◌}
use mathlib.Core.Path.{◌≡◌}
use lib.ListN.{length}
use Rattle.paper.specs.Bytes.{ps_from}
use Rattle.rows.specs.Rows.{deed_on}
use Rattle.rows.proofs.PageRows.{Going}
use Rattle.rows.proofs.each_page.Given as goal

abbrev pub invariant-loop-id : goal.invariant-loop-id
invariant-loop-id l =
    (length l.pages ≡ length l.initial.pages)
    × Going l.pass (deed_on l.bank l.deed) l.outcomes l.initial.taken l.id-items (ps_from l.bank l.initial.pages) l.id-index l.taken (ps_from l.bank l.pages)
