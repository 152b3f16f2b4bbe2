-- A header read and its owner checked, by what the read gave.
-- Assumes nothing.
use Prim.Native.Nat.{ℕ}
use mathlib.Core.Path.{◌≡◌, refl, sym, ap, ◌∙◌}
use mathlib.Core.Bool.{Bool, true, false, cond}
use mathlib.Core.List.{List, [], ◌∷◌}
use lib.ListN.{get_or}
use borrow.Author.Tests.{eq-eqb, ne_eqb}
use lib.Dec.{eqb}
use Rattle.paper.specs.declared.FileId.{FileId}
use Rattle.std.specs.Prelude.{Result, Ok, Err}
use Rattle.paper.specs.declared.Refusal.{Refusal}
use Rattle.paper.specs.declared.Refusal.TheVariants.{NotOwner}
use Rattle.paper.specs.Tables.{HS, PS, header_at}
use Rattle.paper.specs.Stores.{read_header}
use Rattle.paper.specs.Steps.{done, attempt, State, Run, on, end, Steps, follow, ◌>>=◌, ◌>>◌, give, refuse, ask, check, settle}
use Rattle.paper.specs.Requests.{header_in, check_owner}
use Rattle.rows.specs.Standing.{standing}
use Rattle.rows.specs.Rows.{opening}
use Rattle.rows.proofs.Steps.{header_step_lem, leads, ends}

owner_checked : (n : ℕ) (os : List ℕ) (s : State) (b c : Bool) → c ≡ b → (check c NotOwner >> give n) os s ≡ cond b (on n s) (end NotOwner s)
unfolding check give refuse ◌>>◌ ◌>>=◌ follow
owner_checked n os s true c e = rw e
owner_checked n os s false c e = rw e

-- a row that opens a header, where the read gave r
module _ (t client : ℕ) (id : FileId) (os : List ℕ) (hs : HS) (ps : PS) (r : Result ℕ Refusal) (e : done r hs ≡ attempt (get_or os 0 0) (read_header t id) hs) where
  abbrev owned : ℕ → Steps ℕ
  owned n = ask (header_in n) >>= λ h. check_owner client h >> give n

  read : opening t client id os (standing 0 false hs ps) ≡ follow (settle r (standing 1 false hs ps)) os owned
  unfolding opening ◌>>=◌
  read = ap (λ (x : Run ℕ). follow x os owned) (sym (header_step_lem os 0 false r (read_header t id) hs hs ps e))

  pub open_ends : (a : Refusal) → r ≡ Err a → settle (Err a) (standing 1 false hs ps) ≡ opening t client id os (standing 0 false hs ps)
  unfolding settle
  open_ends a h = sym (read ∙ ends r a (standing 1 false hs ps) os owned h)

  module _ (n : ℕ) (g : r ≡ Ok n) where
    found : (b : Bool) → eqb (header_at hs n).owner client ≡ b → opening t client id os (standing 0 false hs ps) ≡ cond b (on n (standing 1 false hs ps)) (end NotOwner (standing 1 false hs ps))
    unfolding ask ◌>>=◌ follow
    found b h = read ∙ leads r n (standing 1 false hs ps) os owned g ∙ owner_checked n os (standing 1 false hs ps) b _ h

    pub open_owned : (header_at hs n).owner ≡ client → settle (Ok n) (standing 1 false hs ps) ≡ opening t client id os (standing 0 false hs ps)
    unfolding settle
    open_owned o = sym (found true (eq-eqb _ _ o))

    pub open_refused : ((header_at hs n).owner ≡ client → ⊥) → settle (Err NotOwner) (standing 1 false hs ps) ≡ opening t client id os (standing 0 false hs ps)
    unfolding settle
    open_refused o = sym (found false (ne_eqb _ _ o))
