-- The 65th unexpired Create gives 7.
use mathlib.Core.Path.{◌≡◌, refl}
use mathlib.Core.List.{[], ◌∷◌, ◌++◌, map}
use lib.ListN.{replicate}
use Rattle.paper.specs.Tables.{standard, fresh}
use Rattle.paper.specs.Requests.{Reply}
use Rattle.paper.specs.Sessions.{first, run}
use Rattle.paper.proofs.Computing.{computing}

pub sixty_fifth : map (λ (r : Reply). r.report.number) (run standard (replicate 65 (first standard)) (fresh standard)) ≡ replicate 64 0 ++ (7 ∷ [])
unfolding computing
sixty_fifth = refl
