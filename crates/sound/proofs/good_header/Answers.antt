-- `good_header` makes the test that the rule is, from the first part to the last.
use Rattle.paper.specs.Sound.{good_header}
use Rattle.sound.proofs.good_header.Goals as goal

pub returns : goal.returns
unfolding good_header
returns c = cc c.ids_within.ensures
