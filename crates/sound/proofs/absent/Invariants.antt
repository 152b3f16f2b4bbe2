use mathlib.Core.Path.{◌≡◌}
use mathlib.Core.Bool.{not, ◌&&◌}
use lib.ListN.{drop}
use Rattle.paper.specs.Lists.{absent}
use Rattle.sound.proofs.absent.Given as goal

abbrev pub invariant-loop-id : goal.invariant-loop-id
invariant-loop-id l = not l.met && absent l.x (drop l.id-index l.ids) ≡ absent l.x l.ids
