-- A small logic of steps: from P a row of steps goes on in Q or ends in E, by a rule for each part that a row is made of.
-- Assumes nothing.
use Prim.Native.Nat.{ℕ, zero, suc}
use mathlib.Core.Path.{◌≡◌, refl}
use mathlib.Core.Bool.{Bool, true, false, cond}
use mathlib.Core.List.{List, [], ◌∷◌}
use Rattle.std.specs.Prelude.{Result, Ok, Err}
use lib.ListN.{get_or}
use Rattle.paper.specs.declared.PageId.{PageId}
use Rattle.paper.specs.declared.Refusal.{Refusal}
use Rattle.paper.specs.declared.Refusal.TheVariants.{ServiceError, Cut}
use Rattle.paper.specs.Ids.{page_id, null_page_id}
use Rattle.paper.specs.Tables.{HS, Tables}
use Rattle.paper.specs.Stores.{Try, gone, no}
use Rattle.paper.specs.Steps
use Rattle.paper.specs.Steps.{Run, on, end, Steps, State, follow, give, refuse, ask, check, allowed, attempt, attempted, tried, settle, step, pass_over, cleanup, marked, header_step, on_headers, each_page, stepped}

-- what is claimed of a request where it stands: of whether its header step has gone through, and of the tables
abbrev pub Claim : Type 1
Claim = Bool → Tables → Type 0

abbrev pub Ends : {A : Type 0} → (Refusal → Claim) → (A → Claim) → Run A → Type 0
Ends E Q (on a s) = Q a s.past s.tables
Ends E Q (end a s) = E a s.past s.tables

pub record Does {A : Type 0} (E : Refusal → Claim) (P : Claim) (m : Steps A) (Q : A → Claim) : Type 0 where
  pub run : (os : List ℕ) (s : State) → P s.past s.tables → Ends E Q (m os s)

followed : {A B : Type 0} {E : Refusal → Claim} {Q : A → Claim} {R : B → Claim} (r : Run A) (os : List ℕ) (f : A → Steps B)
    → Ends E Q r → ((a : A) → Does E (Q a) (f a) R) → Ends E R (follow r os f)
unfolding follow
followed (on a s) os f p d = (d a).run os s p
followed (end a s) os f p d = p

-- what holds after each way in which a step can come out holds after the step, whatever k makes of it
outcomes : (W : Run ℕ → Type 0) (k : Result ℕ Refusal → State → Run ℕ) (f : Tables → Try Tables) (os : List ℕ) (s : State)
    → ((n : ℕ) (t : Tables) → f s.tables ≡ gone n t → W (k (Ok n) (stepped s t)))
    → ((a : Refusal) → f s.tables ≡ no a → W (k (Err a) (stepped s s.tables)))
    → W (k (Err ServiceError) (stepped s s.tables)) → W (k (Err Cut) (stepped s s.tables))
    → W (k (attempted f os s).step (stepped s (attempted f os s).store))
unfolding attempted attempt allowed tried
outcomes W k f os s through own refused cut = go (get_or os s.taken 0)
  where
    by : (r : Try Tables) → f s.tables ≡ r → W (k (tried r s.tables).step (stepped s (tried r s.tables).store))
    by (gone n t) e = through n t e
    by (no a) e = own a e

    go : (o : ℕ) → W (k (attempt o f s.tables).step (stepped s (attempt o f s.tables).store))
    go zero = by (f s.tables) refl
    go (suc zero) = refused
    go (suc (suc o)) = cut

-- of a refusal only Cut is not passed over
passed_over : (W : Run ℕ → Type 0) (a : Refusal) (s : State) → W (end Cut s) → W (on 0 s) → W (pass_over (Err a) s)
unfolding pass_over
passed_over W Cut s cut over = cut
passed_over W _ s cut over = over

module _ {E : Refusal → Claim} where
  module _ {A B : Type 0} {P : Claim} {R : B → Claim} {m : Steps A} where
    infixl 10 ◌>>=◌
    pub ◌>>=◌ : {Q : A → Claim} {f : A → Steps B} → Does E P m Q → ((a : A) → Does E (Q a) (f a) R) → Does E P (Steps.◌>>=◌ m f) R
    unfolding Steps.◌>>=◌
    ◌>>=◌ {Q} {f} d e = record { run = λ os s p. followed {Q = Q} (m os s) os f (d.run os s p) e }

    infixl 10 ◌>>◌
    pub ◌>>◌ : {Q : Claim} {f : Steps B} → Does E P m (λ a. Q) → Does E Q f R → Does E P (Steps.◌>>◌ m f) R
    unfolding Steps.◌>>◌
    d >> e = d >>= λ a. e

  module _ {A : Type 0} {P : Claim} {Q : A → Claim} where
    -- from what says more, and to what says less
    pub from : {P' : Claim} {m : Steps A} → ((u : Bool) (t : Tables) → P u t → P' u t) → Does E P' m Q → Does E P m Q
    from f d = record { run = λ os s p. d.run os s (f s.past s.tables p) }

    pub into : {Q' : A → Claim} {m : Steps A} → ((a : A) (u : Bool) (t : Tables) → Q a u t → Q' a u t) → Does E P m Q → Does E P m Q'
    into {Q'} {m} f d = record { run = λ os s p. go (m os s) (d.run os s p) }
      where
        go : (r : Run A) → Ends E Q r → Ends E Q' r
        go (on a s) p = f a s.past s.tables p
        go (end a s) p = p

    pub gives : (a : A) → ((u : Bool) (t : Tables) → P u t → Q a u t) → Does E P (give a) Q
    unfolding give
    gives a f = record { run = λ os s p. f s.past s.tables p }

    pub refuses : (a : Refusal) → ((u : Bool) (t : Tables) → P u t → E a u t) → Does E P (refuse a) Q
    unfolding refuse
    refuses a f = record { run = λ os s p. f s.past s.tables p }

    pub asks : (f : Tables → A) → ((u : Bool) (t : Tables) → P u t → Q (f t) u t) → Does E P (ask f) Q
    unfolding ask
    asks f g = record { run = λ os s p. g s.past s.tables p }

    -- one of two rows, by a test
    pub chooses : {m k : Steps A} (c : Bool) → (c ≡ true → Does E P m Q) → (c ≡ false → Does E P k Q) → Does E P (cond c m k) Q
    chooses true f g = f refl
    chooses false f g = g refl

  module _ {P : Claim} {Q : ℕ → Claim} where
    pub checks : (c : Bool) (a : Refusal) → (c ≡ true → (u : Bool) (t : Tables) → P u t → Q 0 u t)
        → (c ≡ false → (u : Bool) (t : Tables) → P u t → E a u t) → Does E P (check c a) Q
    unfolding check
    checks c a f g = chooses c (λ e. gives 0 (f e)) (λ e. refuses a (g e))

    -- through: the step's own conditions let it go on; own: they refuse it; refused, cut: its outcome does
    module _ (f : Tables → Try Tables) (through : (u : Bool) (t : Tables) (n : ℕ) (t' : Tables) → P u t → f t ≡ gone n t' → Q n u t')
        (cut : (u : Bool) (t : Tables) → P u t → E Cut u t) where
      pub steps : ((u : Bool) (t : Tables) (a : Refusal) → P u t → f t ≡ no a → E a u t) → ((u : Bool) (t : Tables) → P u t → E ServiceError u t) → Does E P (step f) Q
      unfolding step settle
      steps own refused = record {
        run = λ os s p. outcomes (Ends E Q) settle f os s (λ n t e. through s.past s.tables n t p e) (λ a e. own s.past s.tables a p e)
            (refused s.past s.tables p) (cut s.past s.tables p);
      }

      -- a refusal is passed over
      pub cleanups : ((u : Bool) (t : Tables) → P u t → Q 0 u t) → Does E P (cleanup f) Q
      unfolding cleanup pass_over
      cleanups over = record {
        run = λ os s p. outcomes (Ends E Q) pass_over f os s (λ n t e. through s.past s.tables n t p e)
            (λ a e. passed_over (Ends E Q) a (stepped s s.tables) (cut s.past s.tables p) (over s.past s.tables p))
            (over s.past s.tables p) (cut s.past s.tables p);
      }

    -- the header step is a step after which the request has passed it
    pub header_steps : (f : HS → Try HS) → Does E P (step (on_headers f)) (λ n u t. Q n true t) → Does E P (header_step f) Q
    unfolding header_step marked
    header_steps f d = record { run = λ os s p. go (step (on_headers f) os s) (d.run os s p) }
      where
        go : (r : Run ℕ) → Ends E (λ n u t. Q n true t) r → Ends E Q (marked r)
        go (on n s) p = p
        go (end a s) p = p

  -- each page id but 0 in its turn; P says what holds with these page ids still to come
  pub each : (P : List PageId → Claim) (f : PageId → Steps ℕ) → ((k : ℕ) (ps : List PageId) → Does E (P (page_id (suc k) ∷ ps)) (f (page_id (suc k))) (λ n. P ps))
      → ((ps : List PageId) (u : Bool) (t : Tables) → P (null_page_id ∷ ps) u t → P ps u t) → (ps : List PageId) → Does E (P ps) (each_page f ps) (λ n. P [])
  unfolding each_page
  each P f turn skip [] = gives 0 (λ u t p. p)
  each P f turn skip (p ∷ ps) = go p.0 (each P f turn skip ps)
    where
      go : (k : ℕ) → Does E (P ps) (each_page f ps) (λ n. P []) → Does E (P (page_id k ∷ ps)) (each_page f (page_id k ∷ ps)) (λ n. P [])
      go zero r = from (skip ps) r
      go (suc k) r = turn k ps >> r
