-- Two machines compared by a test that computes: what a machine shows as numbers, and whether a reply gave what the machine gives.
use Prim.Native.Nat.{ℕ, zero, suc}
use mathlib.Core.Bool.{Bool, true, false, ◌&&◌}
use Rattle.std.specs.Prelude.{Option, Some, None}
use mathlib.Core.List.{List, [], ◌∷◌, ◌++◌}
use lib.Dec.{eqb}
use Rattle.paper.specs.declared.Facts.{Facts}
use Rattle.paper.specs.Ids.{file_id, page_num}
use Rattle.paper.specs.Requests.{Reply}
use Rattle.paper.specs.Plain.{File, Plain, Told}

abbrev pub eqs : List ℕ → List ℕ → Bool
eqs [] [] = true
eqs [] (y ∷ ys) = false
eqs (x ∷ xs) [] = false
eqs (x ∷ xs) (y ∷ ys) = eqb x y && eqs xs ys

-- what a machine shows, as numbers: clock, next id, and files 0 to 4 with pages 0 to 15
abbrev pub facts_seen : Facts → List ℕ
facts_seen f = f.owner ∷ f.created ∷ f.updated ∷ f.expires ∷ []

abbrev pub page_seen : Option (List ℕ) → List ℕ
page_seen None = 0 ∷ []
page_seen (Some c) = 1 ∷ c

abbrev pub pages_seen : File → List ℕ → List ℕ
pages_seen f [] = []
pages_seen f (n ∷ ns) = page_seen (f.pages (page_num n)) ++ pages_seen f ns

abbrev pub file_seen : Option File → List ℕ
file_seen None = 0 ∷ []
file_seen (Some f) =
    1 ∷ facts_seen f.facts ++ pages_seen f (0 ∷ 1 ∷ 2 ∷ 3 ∷ 4 ∷ 5 ∷ 6 ∷ 7 ∷ 8 ∷ 9 ∷ 10 ∷ 11 ∷ 12 ∷ 13 ∷ 14 ∷ 15 ∷ [])

abbrev pub files_seen : Plain → List ℕ → List ℕ
files_seen m [] = []
files_seen m (n ∷ ns) = file_seen (m.files (file_id n)) ++ files_seen m ns

abbrev pub seen : Plain → List ℕ
seen m = m.clock ∷ m.next ∷ files_seen m (0 ∷ 1 ∷ 2 ∷ 3 ∷ 4 ∷ [])

-- on Success the id, Info's fields and Read's page are the machine's
abbrev pub gave_that : ℕ → Reply → Told → Bool
gave_that zero r p =
    eqb r.report.id.0 p.report.id.0 && eqs (facts_seen r.report.facts) (facts_seen p.report.facts) && eqs r.page p.page
    && eqb p.report.number 0
gave_that (suc n) r p = true
