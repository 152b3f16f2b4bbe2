-- A row each of whose steps keeps P: P holds wherever the row goes on or ends, and Q of the value that it goes on with.
-- Assumes nothing.
use Prim.Native.Nat.{ℕ, suc}
use mathlib.Core.Path.{subst}
use mathlib.Core.Bool.{Bool, cond}
use mathlib.Core.List.{List}
use Rattle.paper.specs.declared.PageId.{PageId}
use Rattle.paper.specs.declared.Refusal.{Refusal}
use Rattle.paper.specs.Ids.{page_id}
use Rattle.paper.specs.Tables.{HS, Tables}
use Rattle.paper.specs.Stores.{Try, gone, no}
use Rattle.paper.specs.Steps
use Rattle.paper.specs.Steps.{Steps, give, ask, check, step, cleanup, header_step, on_headers, each_page}
use Rattle.plain.proofs.Logic
use Rattle.plain.proofs.Logic.{Does, into, gives, asks, chooses, checks, steps, cleanups, header_steps, each}

abbrev pub Keeping : {A : Type 0} → (Tables → Type 0) → Steps A → (A → Type 0) → Type 0
Keeping P m Q = Does (λ n u t. P t) (λ u t. P t) m (λ a u t. P t × Q a)

-- nothing is said of the value
abbrev pub Any : {A : Type 0} → A → Type 0
Any a = Unit {0}

-- what a step's own conditions make of its store
pub data Leaves {S : Type 0} (P : S → Type 0) (Q : ℕ → Type 0) : Try S → Type 0 where
  through : {n : ℕ} {s : S} → P s → Q n → Leaves P Q (gone n s)
  refused : {a : Refusal} → Leaves P Q (no a)

left_by : {S : Type 0} {P : S → Type 0} {Q : ℕ → Type 0} {n : ℕ} {s : S} → Leaves P Q (gone n s) → P s × Q n
left_by (through p q) = (p, q)

module _ {P : Tables → Type 0} where
  module _ {A B : Type 0} {m : Steps A} {Q : A → Type 0} {R : B → Type 0} where
    infixr 10 ◌>>=◌
    pub ◌>>=◌ : {f : A → Steps B} → Keeping P m Q → ((a : A) → Q a → Keeping P (f a) R) → Keeping P (Steps.◌>>=◌ m f) R
    d >>= e = Logic.◌>>=◌ d (λ a. record { run = λ os s p. (e a p.1).run os s p.0 })

    infixr 10 ◌>>◌
    pub ◌>>◌ : {f : Steps B} → Keeping P m Q → Keeping P f R → Keeping P (Steps.◌>>◌ m f) R
    unfolding Steps.◌>>◌
    d >> e = d >>= λ a q. e

  module _ {A : Type 0} where
    pub keeps_give : (a : A) → Keeping P (give a) Any
    keeps_give a = gives a (λ u t p. (p, tt))

    pub keeps_ask : {Q : A → Type 0} (f : Tables → A) → ((t : Tables) → P t → Q (f t)) → Keeping P (ask f) Q
    keeps_ask f v = asks f (λ u t p. (p, v t p))

    pub keeps_either : {m k : Steps A} (c : Bool) → Keeping P m Any → Keeping P k Any → Keeping P (cond c m k) Any
    keeps_either c d e = chooses c (λ _. d) (λ _. e)

  pub keeps_check : (c : Bool) (a : Refusal) → Keeping P (check c a) Any
  keeps_check c a = checks c a (λ _ u t p. (p, tt)) (λ _ u t p. p)

  pub keeps_step : {Q : ℕ → Type 0} (f : Tables → Try Tables) → ((t : Tables) → P t → Leaves P Q (f t)) → Keeping P (step f) Q
  keeps_step {Q} f k = steps f (λ u t n t' p e. left_by (subst (Leaves P Q) e (k t p))) (λ u t p. p) (λ u t a p e. p) (λ u t p. p)

  pub keeps_cleanup : (f : Tables → Try Tables) → ((t : Tables) → P t → Leaves P Any (f t)) → Keeping P (cleanup f) Any
  keeps_cleanup f k = cleanups f (λ u t n t' p e. left_by (subst (Leaves P Any) e (k t p))) (λ u t p. p) (λ u t p. (p, tt))

  pub keeps_header : {Q : ℕ → Type 0} (f : HS → Try HS) → Keeping P (step (on_headers f)) Q → Keeping P (header_step f) Q
  keeps_header f d = header_steps f d

  pub keeps_each : (f : PageId → Steps ℕ) → ((p : PageId) → Keeping P (f p) Any) → (ps : List PageId) → Keeping P (each_page f ps) Any
  keeps_each f k ps = into (λ n u t p. (p, tt)) (each (λ _ u t. P t) f (λ i _. into (λ n u t p. p.0) (k (page_id (suc i)))) (λ _ u t p. p) ps)
