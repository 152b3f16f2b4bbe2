-- How laws of a request speak of its steps and of what its caller sees; and a request that opens a header first.
-- Assumes nothing.
use Prim.Native.Nat.{ℕ}
use mathlib.Core.Path.{◌≡◌, refl, sym, ap, ◌∙◌}
use mathlib.Core.Bool.{Bool, true, false}
use mathlib.Core.List.{List}
use lib.Dec.{eqb}
use lib.ListN.{get_or}
use Rattle.std.specs.Prelude.{Result, Ok, Err}
use Rattle.paper.specs.declared.Bank.{Bank}
use Rattle.paper.specs.declared.FileId.{FileId}
use Rattle.paper.specs.declared.PageId.{PageId}
use Rattle.paper.specs.declared.Header.{Header}
use Rattle.paper.specs.declared.Refusal.{Refusal}
use Rattle.paper.specs.declared.Refusal.TheVariants.{NotOwner}
use Rattle.paper.specs.Ids.{file_id}
use Rattle.paper.specs.Tables.{HS, PS, Tables}
use Rattle.paper.specs.Stores.{Try, read_header}
use Rattle.paper.specs.Steps.{done, attempt, State, Run, on, end, Steps, follow, ◌>>=◌, ◌>>◌, give, ask, refuse, check, settle, step, marked, on_headers}
use Rattle.paper.specs.Answers.{Request, Gift, an_id, report}
use Rattle.paper.specs.Requests.{reply_of, carry_out, header_in, check_owner}
use Rattle.stores.specs.Geometry.{of_file}
use Rattle.requests.specs.Seen.{Shown, shown, shows}
use Rattle.rows.specs.Standing.{standing}
use Rattle.rows.specs.declared.Deed.{Deed}
use Rattle.rows.specs.Rows.{opening, each_deed}

abbrev pub tables : HS → PS → Tables
tables hs ps = record { hs = hs; ps = ps }

-- step k + 1 made of the store s what f makes of it: r, and the store s'
abbrev pub Took : {S : Type 0} → List ℕ → ℕ → (S → Try S) → S → Result ℕ Refusal → S → Type 0
Took os k f s r s' = done r s' ≡ attempt (get_or os k 0) f s

-- opening the header gave r
abbrev pub Opens : ℕ → ℕ → FileId → List ℕ → HS → PS → Result ℕ Refusal → Type 0
Opens time client id os hs ps r = settle r (standing 1 false hs ps) ≡ opening time client id os (standing 0 false hs ps)

-- a deed on each page, from step k + 1 on, gave r after so many steps, and left the slots ps'
abbrev pub Deeds : Bank → Deed → Bool → List PageId → List ℕ → ℕ → PS → Result ℕ Refusal → ℕ → PS → Type 0
Deeds b deed pass ids os k ps r taken ps' = (past : Bool) (hs : HS) → settle r (standing taken past hs ps') ≡ each_deed b deed pass ids os (standing k past hs ps)

-- the caller of a request that takes these steps from s on sees v
abbrev pub Sees : List ℕ → List ℕ → Steps Gift → State → Shown → Type 0
Sees os lent m s v = v ≡ shown (reply_of lent (m os s))

-- the caller of the request q on the stores hs and ps sees v
abbrev pub Replies : Bank → ℕ → List ℕ → Request → HS → PS → Shown → Type 0
Replies b time os q hs ps v = v ≡ shown (carry_out b time os q (tables hs ps))

module _ (os lent : List ℕ) where
  -- a header step that gave r is the last, and its id is given
  pub finished : (s : State) (r : Result FileId Refusal) → shows (report an_id r) lent s.tables ≡ shown (reply_of lent (follow (marked (settle (of_file r) s)) os (λ i. give (an_id (file_id i)))))
  unfolding reply_of follow settle marked give
  finished s (Ok i) = refl
  finished s (Err a) = refl

  -- a request that reads a header, checks its owner and goes on with f, by what opening the header gave
  module _ (time client : ℕ) (id : FileId) (f : ℕ → Header → Steps Gift) where
    opened : (x : Run ℕ) → follow x os (λ n. ask (header_in n) >>= λ h. check_owner client h >> f n h)
        ≡ follow (follow x os (λ n. ask (header_in n) >>= λ h. check_owner client h >> give n)) os (λ n. ask (header_in n) >>= f n)
    unfolding ◌>>=◌ ◌>>◌ follow ask check give refuse
    opened (on n s) = go (eqb (header_in n s.tables).owner client)
      where
        go : (c : Bool) → follow (check c NotOwner os s) os (λ _. f n (header_in n s.tables)) ≡ follow (follow (check c NotOwner os s) os (λ _. give n)) os (λ m. ask (header_in m) >>= f m)
        go true = refl
        go false = refl
    opened (end a s) = refl

    pub opens : (hs : HS) (ps : PS) (r : Result ℕ Refusal) (v : Shown) → Opens time client id os hs ps r
        → v ≡ shown (reply_of lent (follow (settle r (standing 1 false hs ps)) os (λ n. ask (header_in n) >>= f n)))
        → Sees os lent (step (on_headers (read_header time id)) >>= λ n. ask (header_in n) >>= λ h. check_owner client h >> f n h) (standing 0 false hs ps) v
    unfolding opening ◌>>=◌
    opens hs ps r v e h =
        h
        ∙ ap (λ (x : Run ℕ). shown (reply_of lent (follow x os (λ n. ask (header_in n) >>= f n)))) e
        ∙ sym (ap (λ (x : Run Gift). shown (reply_of lent x)) (opened (step (on_headers (read_header time id)) os (standing 0 false hs ps))))
