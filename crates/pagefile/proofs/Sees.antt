-- From what a border leaves to what its caller over C sees.
-- Assumes nothing.
use Prim.Native.Nat.{ℕ}
use mathlib.Core.Path.{◌≡◌, refl, ap, ◌∙◌}
use mathlib.Core.List.{List}
use Rattle.std.specs.Prelude.{Result, Ok, Err}
use Rattle.paper.specs.declared.Refusal.{Refusal}
use Rattle.paper.specs.Ids.{null_id}
use Rattle.paper.specs.Answers.{Report, Gift, succeeded, report, no_facts, no_counts}
use Rattle.paper.specs.Service.{Left}
use Rattle.service.specs.Border.{left}
use Rattle.pagefile.specs.Seen.{seen, seen_by}

pub sees : {A : Type 0} (f : Report → A) (a : Report) (r : A) (l : Left) (page headers pages : List ℕ) → left a page headers pages ≡ l → r ≡ f a → seen r page headers pages ≡ seen_by f l
sees f a r l page headers pages e s = ap (λ (q : _). seen q page headers pages) s ∙ ap (seen_by f) e

-- what a result that gives no id, no fields of Info or no counts reports of them

pub no_id : {A : Type 0} (g : A → Gift) → ((x : A) → (succeeded (g x)).id ≡ null_id) → (a : Result A Refusal) → (report g a).id ≡ null_id
no_id g h (Ok x) = h x
no_id g h (Err r) = refl

pub no_facts_lem : {A : Type 0} (g : A → Gift) → ((x : A) → (succeeded (g x)).facts ≡ no_facts) → (a : Result A Refusal) → (report g a).facts ≡ no_facts
no_facts_lem g h (Ok x) = h x
no_facts_lem g h (Err r) = refl

pub no_counts_lem : {A : Type 0} (g : A → Gift) → ((x : A) → (succeeded (g x)).swept ≡ no_counts) → (a : Result A Refusal) → (report g a).swept ≡ no_counts
no_counts_lem g h (Ok x) = h x
no_counts_lem g h (Err r) = refl
