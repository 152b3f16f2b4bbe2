-- Where a request stands: it waits, and the tables show only the time taken; or it is carried out, and they show what the plain machine then holds.
-- A rule for each kind of step: one that waits still, the header step, and one that cleans up.
-- Assumes nothing.
use Prim.Native.Nat.{ℕ, ◌≤◌}
use mathlib.Core.Path.{◌≡◌, refl, ap, subst, subst⁻¹, ◌∙◌}
use mathlib.Core.Bool.{Bool, true, false}
use native.Mathlib.Omega.{arith}
use Rattle.paper.specs.declared.Bank.{Bank}
use Rattle.paper.specs.declared.Refusal.{Refusal}
use Rattle.paper.specs.declared.Refusal.TheVariants.{ServiceError, Cut}
use Rattle.paper.specs.Tables.{HS, Tables, clock_of}
use Rattle.paper.specs.Stores.{Try, gone, no}
use Rattle.paper.specs.Steps.{Steps, ask, check, step, cleanup, header_step, on_headers}
use Rattle.paper.specs.Answers.{Request, Gift, nothing, an_id, facts, counts, contents, number_of}
use Rattle.paper.specs.Plain.{Plain, does, deed}
use Rattle.paper.specs.View.{view}
use Rattle.plain.proofs.Facts.{Facts}
use Rattle.plain.proofs.Shown.{Same}
use Rattle.plain.proofs.Logic.{Claim, Does, asks, checks, steps, cleanups, header_steps}

-- a request, its time, and the plain machine once the time is taken
pub record Job : Type 0 where
  pub bank : Bank
  pub now : ℕ
  pub request : Request
  pub machine : Plain

pub data Phase : Type 0 where
  waits : Phase
  done : Gift → Phase

abbrev pub past_in : Phase → Bool
past_in waits = false
past_in (done g) = true

-- the machine v is the one to be shown
abbrev pub Right : Job → Phase → Plain → Type 0
Right j waits v = v ≡ j.machine
Right j (done g) v = deed j.request j.machine ≡ does g v

pub record Shows (j : Job) (p : Phase) (t : Tables) : Type 0 where
  pub facts : Facts j.bank t
  pub clock : clock_of t ≡ j.now
  pub right : Right j p (view j.bank t)

pub record Stands (j : Job) (p : Phase) (X : Tables → Type 0) (u : Bool) (t : Tables) : Type 0 where
  pub past : u ≡ past_in p
  pub shows : Shows j p t
  pub also : X t

abbrev pub Anything : Tables → Type 0
Anything t = Unit {0}

-- a request that waits may be refused, but not by what is checked before all else, or cut; one that is carried out can only be cut
abbrev pub MayEnd : Phase → Refusal → Type 0
MayEnd waits a = 4 ≤ number_of a
MayEnd (done g) a = a ≡ Cut

pub record Ended (j : Job) (a : Refusal) (u : Bool) (t : Tables) : Type 0 where
  pub phase : Phase
  pub may : MayEnd phase a
  pub stands : Stands j phase Anything u t

-- the machine knows no counts
abbrev pub plainly : Gift → Gift
plainly nothing = nothing
plainly (an_id i) = an_id i
plainly (facts f) = facts f
plainly (counts c) = nothing
plainly (contents c) = contents c

abbrev pub Given : Job → Gift → Claim
Given j g u t = Shows j (done (plainly g)) t

-- what a step's own conditions make of the tables; a refusal is one of a request that waits
abbrev pub Makes : (ℕ → Tables → Type 0) → Try Tables → Type 0
Makes Q (gone n t) = Q n t
Makes Q (no a) = MayEnd waits a

-- a step after which the tables show the same
abbrev pub Keeps : Job → (Tables → Try Tables) → (Tables → Type 0) → (ℕ → Tables → Type 0) → Type 0
Keeps j f X Y = (t : Tables) → Facts j.bank t → clock_of t ≡ j.now → X t → Makes (λ n t'. Same j.bank t t' × Y n t') (f t)

module _ {j : Job} {p : Phase} where
  pub ended_in : {X : Tables → Type 0} {a : Refusal} (u : Bool) (t : Tables) → MayEnd p a → Stands j p X u t → Ended j a u t
  ended_in u t m s = record { phase = p; may = m; stands = record { past = s.past; shows = s.shows; also = tt } }

  -- a claim may say less
  pub weaker : {X Y : Tables → Type 0} → ((t : Tables) → Shows j p t → X t → Y t) → (u : Bool) (t : Tables) → Stands j p X u t → Stands j p Y u t
  weaker f u t s = record { past = s.past; shows = s.shows; also = f t s.shows s.also }

  stands_same : {X Y : Tables → Type 0} {u : Bool} (t t' : Tables) → Stands j p X u t → Same j.bank t t' → Y t' → Stands j p Y u t'
  unfolding view
  stands_same t t' o s y = record {
    past = o.past;
    shows = record {
      facts = s.facts;
      clock = ap (λ (v : Plain). v.clock) s.view ∙ o.shows.clock;
      right = subst⁻¹ (Right j p) s.view o.shows.right;
    };
    also = y;
  }

-- the outcome of a step: in either phase it may be cut, and refused where the request waits
ended_cut : {j : Job} {X : Tables → Type 0} (p : Phase) (u : Bool) (t : Tables) → Stands j p X u t → Ended j Cut u t
ended_cut waits u t s = ended_in u t (omega arith) s
ended_cut (done g) u t s = ended_in u t refl s

ended_refused : {j : Job} {X : Tables → Type 0} (u : Bool) (t : Tables) → Stands j waits X u t → Ended j ServiceError u t
ended_refused u t s = ended_in u t (omega arith) s

-- steps before the header step: X is known before them, Y after them
abbrev pub Before : {A : Type 0} → Job → (Tables → Type 0) → Steps A → (A → Tables → Type 0) → Type 0
Before j X m Y = Does (Ended j) (Stands j waits X) m (λ a. Stands j waits (Y a))

-- the machine of a request that waits is the one that the tables show
pub carried_by : {j : Job} {g : Gift} {t : Tables} (t' : Tables) → Shows j waits t → Facts j.bank t' → clock_of t' ≡ clock_of t
    → deed j.request (view j.bank t) ≡ does g (view j.bank t') → Shows j (done g) t'
carried_by {j} {g} t' s f c e = record {
  facts = f;
  clock = c ∙ s.clock;
  right = subst (λ (m : Plain). deed j.request m ≡ does g (view j.bank t')) s.right e;
}

module _ {j : Job} {X : Tables → Type 0} where
  -- no step: a test, and what the tables hold
  pub tests : (c : Bool) (a : Refusal) → MayEnd waits a → Before j X (check c a) (λ n t. X t × (c ≡ true))
  tests c a m = checks c a (λ e u t s. record { past = s.past; shows = s.shows; also = (s.also, e) }) (λ e u t s. ended_in u t m s)

  pub learns : {A : Type 0} (f : Tables → A) → Before j X (ask f) (λ a t. X t × (a ≡ f t))
  learns f = asks f (λ u t s. record { past = s.past; shows = s.shows; also = (s.also, refl) })

  -- what a step keeps, in either phase
  kept_by : {p : Phase} (Y : ℕ → Tables → Type 0) (f : Tables → Try Tables) → Keeps j f X Y
      → (u : Bool) (t : Tables) (n : ℕ) (t' : Tables) → Stands j p X u t → f t ≡ gone n t' → Stands j p (Y n) u t'
  kept_by Y f k u t n t' s e =
      let m : Same j.bank t t' × Y n t' = subst (Makes (λ n t'. Same j.bank t t' × Y n t')) e (k t s.shows.facts s.shows.clock s.also) in
      stands_same t t' s m.0 m.1

  -- a step before the header step
  pub keeps : {Y : ℕ → Tables → Type 0} (f : Tables → Try Tables) → Keeps j f X Y → Before j X (step f) Y
  keeps {Y} f k =
      steps f (kept_by Y f k) (ended_cut waits)
      (λ u t a s e. ended_in u t (subst (Makes (λ n t'. Same j.bank t t' × Y n t')) e (k t s.shows.facts s.shows.clock s.also)) s) ended_refused

  -- a step after it
  pub cleans : {p : Phase} {Y : Tables → Type 0} (f : Tables → Try Tables) → Keeps j f X (λ n. Y) → ((t : Tables) → X t → Y t)
      → Does (Ended j) (Stands j p X) (cleanup f) (λ n. Stands j p Y)
  cleans {p} {Y} f k less = cleanups f (kept_by (λ n. Y) f k) (ended_cut p) (weaker (λ t _. less t))

  -- the header step, shown at the time of the tables
  pub carries_out : {Y : ℕ → Tables → Type 0} (f : ℕ → HS → Try HS) (g : ℕ → Gift)
      → ((t : Tables) → Shows j waits t → X t → Makes (λ n t'. Shows j (done (g n)) t' × Y n t') (on_headers (f (clock_of t)) t))
      → Does (Ended j) (Stands j waits X) (header_step (f j.now)) (λ n. Stands j (done (g n)) (Y n))
  carries_out {Y} f g k =
      header_steps (f j.now) (steps (on_headers (f j.now)) (λ u t n t' s e. record { past = refl; shows = (made t s e).0; also = (made t s e).1 }) (ended_cut waits)
      (λ u t a s e. ended_in u t (made t s e) s) ended_refused)
    where
      made : {u : Bool} {r : Try Tables} (t : Tables) → Stands j waits X u t → on_headers (f j.now) t ≡ r → Makes (λ n t'. Shows j (done (g n)) t' × Y n t') r
      made t s e =
          subst (Makes (λ n t'. Shows j (done (g n)) t' × Y n t')) (ap (λ c. on_headers (f c) t) s.shows.clock ∙ e) (k t s.shows s.also)
