-- Sessions 1 to 12 computed from the definitions: what they answer and show; and session 13.
use Prim.Native.Nat.{ℕ}
use mathlib.Core.Path.{◌≡◌, refl}
use mathlib.Core.List.{List, [], ◌∷◌, map, zip_with}
use Rattle.paper.specs.Tables.{standard, fresh}
use Rattle.paper.specs.Requests.{Reply}
use Rattle.paper.specs.Sessions.{Call, sessions, printed, shown, run, shows, session13}
use Rattle.paper.proofs.Computing.{computing}

abbrev rows : List Call → List Reply → List (List ℕ)
rows cs rs = zip_with (λ (c : Call) (r : Reply). shows c r.report r.page) cs rs

pub sessions_show : map (λ cs. rows cs (run standard cs (fresh standard))) (sessions standard) ≡ shown
unfolding computing
sessions_show = refl

-- the numbers of these rows are the document's lines
abbrev number : List ℕ → ℕ
number [] = 0
number (n ∷ ns) = n

pub sessions_print : map (map number) shown ≡ printed
sessions_print = refl

pub thirteen : map (λ (r : Reply). r.report.number) (session13 standard) ≡ 0 ∷ 2 ∷ []
unfolding computing
thirteen = refl
