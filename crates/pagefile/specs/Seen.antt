-- What a caller over C sees of a request: the answer's struct, the lent page, and every byte of both tables.
use Rattle.std.specs.Prelude.{ℕ, List}
use Rattle.paper.specs.Answers.{Report}
use Rattle.paper.specs.Service.{Left}
use Rattle.pagefile.specs.declared.Answered.{Answered}
use Rattle.pagefile.specs.declared.Told.{Told}
use Rattle.pagefile.specs.declared.Counted.{Counted}

pub record Seen (A : Type 0) : Type 0 where
  pub answer : A
  pub page : List ℕ
  pub headers : List ℕ
  pub pages : List ℕ

abbrev pub seen : {A : Type 0} → A → List ℕ → List ℕ → List ℕ → Seen A
seen a page headers pages = record { answer = a; page = page; headers = headers; pages = pages }

-- what a request leaves, with its report as the struct f makes of it
abbrev pub seen_by : {A : Type 0} → (Report → A) → Left → Seen A
seen_by f l = seen (f l.report) l.page l.headers l.pages

abbrev pub numbered : Report → ℕ
numbered r = r.number

abbrev pub answered : Report → Answered
answered r = record { number = r.number; id = r.id.0 }

abbrev pub told : Report → Told
told r = record { number = r.number; owner = r.facts.owner; created = r.facts.created; updated = r.facts.updated; expires = r.facts.expires }

abbrev pub counted : Report → Counted
counted r = record { number = r.number; headers = r.swept.headers; pages = r.swept.pages }
