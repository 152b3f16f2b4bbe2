-- A page slot given another expiry: the tables show the same where no live header that names it expires later.
-- Assumes nothing.
use Prim.Native.Nat.{ℕ, zero, suc, ◌≤◌}
use mathlib.Core.Path.{◌≡◌, refl, sym, subst, subst⁻¹}
use mathlib.Core.Logic.{◌≢◌}
use mathlib.Core.Bool.{Bool, true, cond}
use mathlib.Core.List.{List, [], ◌∷◌}
use native.Mathlib.Omega.{arith}
use lib.ListN.{get_or}
use Rattle.paper.specs.declared.Bank.{Bank}
use Rattle.paper.specs.declared.PageId.{PageId}
use Rattle.paper.specs.declared.Header.{Header}
use Rattle.paper.specs.Ids.{page_id, null_page_id}
use Rattle.paper.specs.Lists.{is_zero, put_at}
use Rattle.paper.specs.Tables.{Slot, HS, Tables, no_slot, header_at}
use Rattle.paper.specs.Sound.{slot_sound, zero_slot}
use Rattle.paper.specs.Stores.{expiring, set_page_expiry}
use Rattle.paper.specs.Steps.{step, cleanup, each_page, on_pages, in_pages}
use Rattle.plain.proofs.Lists.{at_put}
use Rattle.plain.proofs.Facts.{page_at, slot_of, Facts, LiveAt, page_in}
use Rattle.plain.proofs.Shown.{Same}
use Rattle.plain.proofs.Pages.{with_pages, Fits, slot_same}
use Rattle.plain.proofs.Logic.{Does, from, into, each}
use Rattle.plain.proofs.Phases.{Job, Phase, Before, Stands, Anything, Ended, Keeps, weaker, keeps, cleans}

-- slot k may expire at e
pub record Aging (b : Bank) (e k : ℕ) (t : Tables) : Type 0 where
  pub high : k ≤ b.slots
  pub used : (slot_of b t.ps k).used ≡ true
  pub cap : (i m : ℕ) → LiveAt t i → page_in t i m ≡ k → (header_at t.hs i).expires ≤ e

abbrev pub AllAging : Bank → ℕ → List PageId → Tables → Type 0
AllAging b e ps t = (m : ℕ) → (get_or ps m null_page_id).0 ≢ 0 → Aging b e (get_or ps m null_page_id).0 t

abbrev pub aged : Bank → ℕ → ℕ → Tables → Tables
aged b e k t = with_pages (put_at k (expiring e (slot_of b t.ps k)) t.ps) t

expiring_sound : (e : ℕ) (s : Slot) → s.used ≡ true → slot_sound s ≡ true → slot_sound (expiring e s) ≡ true
unfolding slot_sound
expiring_sound e s u ok =
    subst⁻¹ (λ (v : Bool). cond v (is_zero s.spare) (zero_slot (expiring e s)) ≡ true) u
    (subst (λ (v : Bool). cond v (is_zero s.spare) (zero_slot s) ≡ true) u ok)

module _ (b : Bank) (e k : ℕ) (t : Tables) (f : Facts b t) (lo : 1 ≤ k) (a : Aging b e k t) where
  fits : Fits b t k (expiring e (slot_of b t.ps k))
  fits i m l q = record { backs = record { used = a.used; long = a.cap i m l q }; same = refl }

  aged_same : Same b t (aged b e k t)
  aged_same = slot_same b t k (expiring e (slot_of b t.ps k)) f lo a.high (expiring_sound e (slot_of b t.ps k) a.used (f.slot k)) fits

  -- what the slot has then, and every other had, each slot has
  pub aged_all : (P : ℕ → Slot → Type 0) → P k (expiring e (slot_of b t.ps k)) → ((w : ℕ) → w ≢ k → P w (slot_of b t.ps w))
      → (w : ℕ) → P w (slot_of b (aged b e k t).ps w)
  aged_all = at_put (no_slot b) t.ps k (expiring e (slot_of b t.ps k)) lo (omega (arith, f.count, a.high))

  still_aging : (w : ℕ) → Aging b e w t → Aging b e w (aged b e k t)
  still_aging w c = record {
    high = c.high;
    used = aged_all (λ v s. (slot_of b t.ps v).used ≡ true → s.used ≡ true) (λ u. u) (λ v _ u. u) w c.used;
    cap = c.cap;
  }

-- one page's step, with these still to come; Z is what else the step keeps
pub ages : (j : Job) (e k : ℕ) (ps : List PageId) (Z : List PageId → Tables → Type 0)
    → ((t : Tables) → Facts j.bank t → Aging j.bank e (suc k) t → Z (page_id (suc k) ∷ ps) t → Z ps (aged j.bank e (suc k) t))
    → Keeps j (on_pages (set_page_expiry j.bank e (page_id (suc k)))) (λ t. AllAging j.bank e (page_id (suc k) ∷ ps) t × Z (page_id (suc k) ∷ ps) t) (λ n t. AllAging j.bank e ps t × Z ps t)
unfolding set_page_expiry in_pages
ages j e k ps Z z t f c x =
    let a : Aging j.bank e (suc k) t = x.0 0 (omega arith) in (
      aged_same j.bank e (suc k) t f (omega arith) a,
      (λ m ne. still_aging j.bank e (suc k) t f (omega arith) a (get_or ps m null_page_id).0 (x.0 (suc m) ne), z t f a x.1),
    )

-- the pages after the header, whatever becomes of each step
pub shortens_pages : {j : Job} {p : Phase} (e : ℕ) (ps : List PageId)
    → Does (Ended j) (Stands j p (AllAging j.bank e ps)) (each_page (λ q. cleanup (on_pages (set_page_expiry j.bank e q))) ps) (λ n. Stands j p Anything)
shortens_pages {j} {p} e ps =
    from (weaker (λ t _ x. (x, tt))) (into (λ n. weaker (λ t _ _. tt))
    (each (λ ps. Stands j p (λ t. AllAging j.bank e ps t × Unit {0})) (λ q. cleanup (on_pages (set_page_expiry j.bank e q)))
    (λ k ps. cleans (on_pages (set_page_expiry j.bank e (page_id (suc k)))) (ages j e k ps (λ ps t. Unit {0}) (λ t f a z. tt)) (λ t x. ((λ m. x.0 (suc m)), tt)))
    (λ ps. weaker (λ t _ x. ((λ m. x.0 (suc m)), tt))) ps))

-- The pages before the header: all of them in the end.

-- each page of h is held until e
abbrev pub Long : Bank → ℕ → Header → Tables → Type 0
Long b e h t = (m : ℕ) → page_at h m ≢ 0 → e ≤ (slot_of b t.ps (page_at h m)).expires

-- page id w is held until e, or among those to come
data Due (b : Bank) (e : ℕ) (ps : List PageId) (t : Tables) (w : ℕ) : Type 0 where
  held : e ≤ (slot_of b t.ps w).expires → Due b e ps t w
  comes : (l : ℕ) → (get_or ps l null_page_id).0 ≡ w → Due b e ps t w

abbrev AllDue : Bank → ℕ → Header → List PageId → Tables → Type 0
AllDue b e h ps t = (m : ℕ) → page_at h m ≢ 0 → Due b e ps t (page_at h m)

-- the first of those to come is held now, or is none; what was held is held
due_step : (b : Bank) (e : ℕ) (t t' : Tables) (p : PageId) (ps : List PageId) (w : ℕ) → (e ≤ (slot_of b t.ps w).expires → e ≤ (slot_of b t'.ps w).expires)
    → (p.0 ≡ w → e ≤ (slot_of b t'.ps w).expires) → Due b e (p ∷ ps) t w → Due b e ps t' w
due_step b e t t' p ps w still now (held h) = held (still h)
due_step b e t t' p ps w still now (comes zero q) = held (now q)
due_step b e t t' p ps w still now (comes (suc l) q) = comes l q

due_aged : (b : Bank) (e k : ℕ) (h : Header) (ps : List PageId) (t : Tables) → Facts b t → Aging b e (suc k) t → AllDue b e h (page_id (suc k) ∷ ps) t → AllDue b e h ps (aged b e (suc k) t)
due_aged b e k h ps t f a d m ne =
    due_step b e t (aged b e (suc k) t) (page_id (suc k)) ps (page_at h m)
    (aged_all b e (suc k) t f (omega arith) a (λ w s. e ≤ (slot_of b t.ps w).expires → e ≤ s.expires) (λ _. omega arith) (λ w _ le. le) (page_at h m))
    (aged_all b e (suc k) t f (omega arith) a (λ w s. suc k ≡ w → e ≤ s.expires) (λ _. omega arith) (λ w ne q. absurd (ne (sym q))) (page_at h m))
    (d m ne)

due_skip : (b : Bank) (e : ℕ) (h : Header) (ps : List PageId) (t : Tables) → AllDue b e h (null_page_id ∷ ps) t → AllDue b e h ps t
due_skip b e h ps t d m ne = due_step b e t t null_page_id ps (page_at h m) (λ le. le) (λ q. absurd (ne (sym q))) (d m ne)

due_none : (b : Bank) (e : ℕ) (h : Header) (t : Tables) → AllDue b e h [] t → Long b e h t
due_none b e h t d m ne = go (d m ne)
  where
    go : Due b e [] t (page_at h m) → e ≤ (slot_of b t.ps (page_at h m)).expires
    go (held le) = le
    go (comes l q) = absurd (ne (sym q))

-- what is known of the Header Store is still known
pub lengthens_pages : {j : Job} (e : ℕ) (h : Header) (X : HS → Type 0)
    → Before j (λ t. AllAging j.bank e h.pages t × X t.hs) (each_page (λ q. step (on_pages (set_page_expiry j.bank e q))) h.pages)
    (λ n t. Long j.bank e h t × X t.hs)
lengthens_pages {j} e h X =
    from (weaker (λ t _ x. (x.0, ((λ m ne. Due.comes m refl), x.1)))) (into (λ n. weaker (λ t _ x. (due_none j.bank e h t x.1.0, x.1.1)))
    (each (λ ps. Stands j Phase.waits (λ t. AllAging j.bank e ps t × Still ps t)) (λ q. step (on_pages (set_page_expiry j.bank e q)))
    (λ k ps. keeps (on_pages (set_page_expiry j.bank e (page_id (suc k)))) (ages j e k ps Still (λ t f a z. (due_aged j.bank e k h ps t f a z.0, z.1))))
    (λ ps. weaker (λ t _ x. ((λ m. x.0 (suc m)), (due_skip j.bank e h ps t x.1.0, x.1.1)))) h.pages))
  where
    Still : List PageId → Tables → Type 0
    Still ps t = AllDue j.bank e h ps t × X t.hs
