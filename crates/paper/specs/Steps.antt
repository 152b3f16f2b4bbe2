-- A request is a row of steps; step k takes byte k of the outcome list. Only this file knows outcomes.
use Rattle.std.specs.Prelude.{ℕ, zero, suc, Bool, true, false, cond, List, [], ◌∷◌, get_or, Result, Ok, Err}
use Rattle.paper.specs.declared.PageId.{PageId}
use Rattle.paper.specs.declared.Refusal.{Refusal}
use Rattle.paper.specs.declared.Refusal.TheVariants.{BadCall, Damaged, ClockBack, NoSuchFile, NotOwner, NoSuchPage, NoSpace, NoIds, ServiceError, Cut}
use Rattle.paper.specs.Ids.{page_id}
use Rattle.paper.specs.Tables.{HS, PS, Tables}
use Rattle.paper.specs.Stores.{Try, gone, no}

-- 0 lets a step go through, 1 is a refusal by its store (ServiceError), 2 power lost before it.
unfoldable pub allowed : ℕ → Result (Unit {0}) Refusal
allowed zero = Ok tt
allowed (suc zero) = Err ServiceError
allowed (suc (suc o)) = Err Cut

-- A step's result, the number that it went through with or its refusal, and the store that it leaves.
pub record Done (S : Type 0) : Type 0 where
  pub step : Result ℕ Refusal
  pub store : S

module _ {S : Type 0} where
  abbrev pub done : Result ℕ Refusal → S → Done S
  done r s = record { step = r; store = s }

  unfoldable pub tried : Try S → S → Done S
  tried (gone n s') s = done (Ok n) s'
  tried (no a) s = done (Err a) s

  -- The outcome is looked at before the step's own conditions; a step that it stops changes nothing.
  unfoldable pub attempt : ℕ → (S → Try S) → S → Done S
  attempt o f s = elim (allowed o) [ Ok u ↦ tried (f s) s | Err a ↦ done (Err a) s ]

-- Each step touches one bank alone.
unfoldable pub in_headers : Try HS → Tables → Try Tables
in_headers (gone n s) t = gone n (record { hs = s; ps = t.ps })
in_headers (no a) t = no a

unfoldable pub in_pages : Try PS → Tables → Try Tables
in_pages (gone n s) t = gone n (record { hs = t.hs; ps = s })
in_pages (no a) t = no a

abbrev pub on_headers : (HS → Try HS) → Tables → Try Tables
on_headers f t = in_headers (f t.hs) t

abbrev pub on_pages : (PS → Try PS) → Tables → Try Tables
on_pages f t = in_pages (f t.ps) t

-- Where a request stands: the steps taken, whether its header step has gone through, the tables.
pub record State : Type 0 where
  pub taken : ℕ
  pub past : Bool
  pub tables : Tables

-- It goes on with a value, or has ended with a refusal.
pub data Run (A : Type 0) : Type 0 where
  on : A → State → Run A
  end : Refusal → State → Run A

abbrev pub Steps : Type 0 → Type 0
Steps A = List ℕ → State → Run A

module _ {A B : Type 0} where
  unfoldable pub follow : Run A → List ℕ → (A → Steps B) → Run B
  follow (on a s) os f = f a os s
  follow (end n s) os f = end n s

  infixl 10 ◌>>=◌
  unfoldable pub ◌>>=◌ : Steps A → (A → Steps B) → Steps B
  (m >>= f) os s = follow (m os s) os f

  infixl 10 ◌>>◌
  unfoldable pub ◌>>◌ : Steps A → Steps B → Steps B
  m >> f = m >>= λ a. f

module _ {A : Type 0} where
  unfoldable pub give : A → Steps A
  give a os s = on a s

  unfoldable pub refuse : Refusal → Steps A
  refuse n os s = end n s

  -- what the tables hold, without a step
  unfoldable pub ask : (Tables → A) → Steps A
  ask f os s = on (f s.tables) s

-- the refusal a unless the test passes
unfoldable pub check : Bool → Refusal → Steps ℕ
check c a = cond c (give 0) (refuse a)

unfoldable pub attempted : (Tables → Try Tables) → List ℕ → State → Done Tables
attempted f os s = attempt (get_or os s.taken 0) f s.tables

abbrev pub stepped : State → Tables → State
stepped s t = record { taken = suc s.taken; past = s.past; tables = t }

-- At any other step a refusal ends the request.
unfoldable pub settle : Result ℕ Refusal → State → Run ℕ
settle (Ok n) s = on n s
settle (Err a) s = end a s

unfoldable pub step : (Tables → Try Tables) → Steps ℕ
step f os s = let d = attempted f os s in settle d.step (stepped s d.store)

abbrev pub is_cut : Refusal → Bool
is_cut BadCall = false
is_cut Damaged = false
is_cut ClockBack = false
is_cut NoSuchFile = false
is_cut NotOwner = false
is_cut NoSuchPage = false
is_cut NoSpace = false
is_cut NoIds = false
is_cut ServiceError = false
is_cut Cut = true

-- a later refused step is passed over ..; a Cut there is Cut
unfoldable pub pass_over : Result ℕ Refusal → State → Run ℕ
pass_over (Ok n) s = on n s
pass_over (Err a) s = cond (is_cut a) (end a s) (on 0 s)

unfoldable pub cleanup : (Tables → Try Tables) → Steps ℕ
cleanup f os s = let d = attempted f os s in pass_over d.step (stepped s d.store)

-- The header step is creating, replacing or destroying the header.
unfoldable pub marked : Run ℕ → Run ℕ
marked (on n s) = on n (record { taken = s.taken; past = true; tables = s.tables })
marked (end a s) = end a s

unfoldable pub header_step : (HS → Try HS) → Steps ℕ
header_step f os s = marked (step (on_headers f) os s)

-- Page id 0 makes no step; by rising page number
unfoldable pub each_page : (PageId → Steps ℕ) → List PageId → Steps ℕ
each_page f [] = give 0
each_page f (p ∷ ps) = elim p.0 [ zero ↦ each_page f ps | suc k ↦ f (page_id (suc k)) >> each_page f ps ]
