-- A result is known by its report: Success has number 0 and each refusal a number of its own, and a gift shows its value.
-- Assumes nothing.
use mathlib.Core.Path.{◌≡◌, refl, sym, ap, ◌∙◌}
use mathlib.Core.List.{List, [], ◌∷◌, map}
use lib.ListN.{get_or}
use Rattle.std.specs.Prelude.{Option, Some, None, Result, Ok, Err}
use Rattle.paper.specs.declared.FileId.{FileId}
use Rattle.paper.specs.declared.Facts.{Facts}
use Rattle.paper.specs.declared.Swept.{Swept}
use Rattle.paper.specs.declared.Refusal.{Refusal}
use Rattle.paper.specs.declared.Refusal.TheVariants.{BadCall, Damaged, ClockBack, NoSuchFile, NotOwner, NoSuchPage, NoSpace, NoIds, ServiceError, Cut}
use Rattle.paper.specs.Answers.{Report, Gift, nothing, an_id, facts, counts, contents, succeeded, no_gift, number_of, report}

-- the answers in the order of their numbers; Success is no refusal
abbrev refusals : List (Option Refusal)
refusals = None ∷ map Some (BadCall ∷ Damaged ∷ ClockBack ∷ NoSuchFile ∷ NotOwner ∷ NoSuchPage ∷ NoSpace ∷ NoIds ∷ ServiceError ∷ Cut ∷ [])

abbrev refusal_in : Report → Option Refusal
refusal_in q = get_or refusals q.number None

by_number : (r : Refusal) → get_or refusals (number_of r) None ≡ Some r
by_number BadCall = refl
by_number Damaged = refl
by_number ClockBack = refl
by_number NoSuchFile = refl
by_number NotOwner = refl
by_number NoSuchPage = refl
by_number NoSpace = refl
by_number NoIds = refl
by_number ServiceError = refl
by_number Cut = refl

no_refusal : (g : Gift) → refusal_in (succeeded g) ≡ None
no_refusal nothing = refl
no_refusal (an_id i) = refl
no_refusal (facts f) = refl
no_refusal (counts c) = refl
no_refusal (contents c) = refl

-- where a report shows a gift's value, no two results have one report
module _ {A : Type 0} (g : A → Gift) (shown : (a b : A) → succeeded (g a) ≡ succeeded (g b) → a ≡ b) where
  pub report_one : (r r' : Result A Refusal) → report g r ≡ report g r' → r ≡ r'
  report_one (Ok a) (Ok b) e = ap Ok (shown a b e)
  report_one (Ok a) (Err r) e = let z : None ≡ Some r = sym (no_refusal (g a)) ∙ ap refusal_in e ∙ by_number r in cc
  report_one (Err r) (Ok b) e = let z : Some r ≡ None = sym (by_number r) ∙ ap refusal_in e ∙ no_refusal (g b) in cc
  report_one (Err r) (Err r') e = let z : Some r ≡ Some r' = sym (by_number r) ∙ ap refusal_in e ∙ by_number r' in cc

pub id_one : (r r' : Result FileId Refusal) → report an_id r ≡ report an_id r' → r ≡ r'
id_one = report_one an_id (λ a b e. ap (λ (q : Report). q.id) e)

pub facts_one : (r r' : Result Facts Refusal) → report facts r ≡ report facts r' → r ≡ r'
facts_one = report_one facts (λ a b e. ap (λ (q : Report). q.facts) e)

pub counts_one : (r r' : Result Swept Refusal) → report counts r ≡ report counts r' → r ≡ r'
counts_one = report_one counts (λ a b e. ap (λ (q : Report). q.swept) e)

pub nothing_one : (r r' : Result (Unit {0}) Refusal) → report no_gift r ≡ report no_gift r' → r ≡ r'
nothing_one = report_one no_gift (λ a b e. refl)
