-- `all_distinct` compares each id with those after it: what is left says whether all are distinct.
use mathlib.Core.Path.{◌≡◌, sym, ap, ◌∙◌}
use mathlib.Core.Bool.{Bool, ◌&&◌}
use Rattle.paper.specs.Lists.{absent, distinct}
use Rattle.sound.proofs.all_distinct.Goals.{After-absent}
use Rattle.sound.proofs.all_distinct.Goals as goal

turn : (t : After-absent) (s : Bool) → s ≡ absent t.in-Some.id.now t.in-Some.others.now → s && distinct t.in-Some.others.now ≡ distinct t.args.ids.now
turn t s e = ap (λ (u : Bool). u && distinct t.in-Some.others.now) e ∙ ap distinct (sym t.in-Some.ensures.cases.0) ∙ t.loop-id.invariant

pub returns-then-not-absent : goal.returns-then-not-absent
returns-then-not-absent c = turn (goal.at.returns-then-not-absent c).After-absent _ c.if-not-absent.ensures

pub loop-id-preserved : goal.loop-id-preserved
loop-id-preserved c = turn (goal.at.loop-id-preserved c).After-absent _ c.if-not-absent.ensures
