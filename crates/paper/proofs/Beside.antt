-- The plain machine run beside the tables, on the twelve sessions and on our own cases: after every request both show the same
-- clock, next id and files, and on Success the service gave what the machine gives.
use mathlib.Core.Path.{◌≡◌, refl}
use mathlib.Core.Bool.{Bool, true, ◌&&◌}
use mathlib.Core.List.{List, [], ◌∷◌}
use Rattle.paper.specs.declared.Bank.{Bank}
use Rattle.paper.specs.Lists.{all}
use Rattle.paper.specs.Tables.{Tables, standard, fresh}
use Rattle.paper.specs.Requests.{Reply, serve}
use Rattle.paper.specs.Plain.{Plain, fresh_machine, plain}
use Rattle.paper.specs.View.{view, beside}
use Rattle.paper.specs.Sessions.{Call, sessions}
use Rattle.paper.proofs.Computing.{computing}
use Rattle.paper.proofs.Compared.{eqs, seen, gave_that}
use Rattle.paper.proofs.Cases.{few, cases}

-- after a request both show the same, and so they do after the rest
abbrev both : Bank → (Tables → Plain → Bool) → Tables → Plain → Bool
both b rest t m = eqs (seen (view b t)) (seen m) && rest t m

abbrev after : Bank → Call → Plain → (Tables → Plain → Bool) → Reply → Bool
after b c m rest r =
    gave_that r.report.number r (plain c.now c.request m) && both b rest r.tables (beside c.now c.request r m)

abbrev agree : Bank → List Call → Tables → Plain → Bool
agree b [] t m = true
agree b (c ∷ cs) t m = after b c m (agree b cs) (serve b c.now c.outcomes c.request t)

pub same_files : all (λ cs. agree standard cs (fresh standard) fresh_machine) (sessions standard) ≡ true
unfolding computing
same_files = refl

pub same_files_cases : all (λ cs. agree few cs (fresh few) fresh_machine) cases ≡ true
unfolding computing
same_files_cases = refl
