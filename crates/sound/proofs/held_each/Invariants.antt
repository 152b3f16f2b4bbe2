use mathlib.Core.Path.{◌≡◌}
use lib.ListN.{length}
use Rattle.paper.specs.Bytes.{ps_from}
use Rattle.sound.specs.Seen.{held_to}
use Rattle.sound.proofs.Seen.{Walked}
use Rattle.sound.proofs.held_each.Given as goal

abbrev pub invariant-loop-p : goal.invariant-loop-p
invariant-loop-p l = (length l.seen ≡ length l.initial.seen)
    × Walked (held_to l.bank (ps_from l.bank l.pages) l.expires) l.ids l.initial.seen l.p-index l.seen l.good
