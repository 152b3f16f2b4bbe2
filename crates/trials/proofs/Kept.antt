-- Every trial passes, and the tables that they are made on are sound.
use mathlib.Core.Path.{◌≡◌, refl}
use mathlib.Core.Bool.{true}
use lib.ListN.{replicate}
use Rattle.paper.specs.Sound.{sound}
use Rattle.paper.proofs.Computing.{computing}
use Rattle.trials.proofs.Trials.{few, two, trials}

tables_sound : sound few two ≡ true
unfolding computing
tables_sound = refl

all_kept : trials ≡ replicate 14 true
unfolding computing
all_kept = refl
