-- SetExpiry loses nothing: a longer life is given to the pages before the header, a shorter one after it, so each page outlives its header.
-- Assumes nothing.
use Prim.Native.Nat.{ℕ, ◌≤◌, ◌<◌}
use mathlib.Core.Path.{◌≡◌, refl, sym, ap, subst, ◌∙◌}
use mathlib.Core.Logic.{◌≢◌}
use mathlib.Core.Bool.{true, false, cond}
use Rattle.std.specs.Prelude.{None}
use native.Mathlib.Omega.{arith}
use borrow.Author.Tests.{leb-true, leb-false}
use lib.Dec.{eqb, leb}
use Rattle.paper.specs.declared.Bank.{Bank}
use Rattle.paper.specs.declared.FileId.{FileId}
use Rattle.paper.specs.declared.Header.{Header}
use Rattle.paper.specs.Ids.{file_id, later}
use Rattle.paper.specs.Tables.{Tables, no_header, clock_of, header_at}
use Rattle.paper.specs.Stores.{replace_header, set_page_expiry}
use Rattle.paper.specs.Steps
use Rattle.paper.specs.Steps.{step, cleanup, header_step, each_page, give, on_headers, on_pages}
use Rattle.paper.specs.Answers.{SetExpiry, an_id}
use Rattle.paper.specs.Requests.{steps_of, set_expiry, set_header_expiry}
use Rattle.paper.specs.Plain.{deed, plain_set_expiry}
use Rattle.paper.specs.View.{view}
use Rattle.plain.specs.Demand.{NothingLost}
use Rattle.plain.proofs.Lists.{at_put}
use Rattle.plain.proofs.Facts.{page_at, Live, Facts, used_in, LiveAt, page_in}
use Rattle.plain.proofs.Shown.{files_of}
use Rattle.plain.proofs.Headers.{with_header}
use Rattle.plain.proofs.Stored.{Storable, live_storable, stores}
use Rattle.plain.proofs.Aged.{AllAging, Long, lengthens_pages, shortens_pages}
use Rattle.plain.proofs.Logic.{Claim, Does, ◌>>=◌, ◌>>◌, from, into, gives, chooses}
use Rattle.plain.proofs.Phases.{Job, Phase, Shows, Stands, Anything, Ended, Makes, weaker, carries_out}
use Rattle.plain.proofs.Found.{Mine, finds, reads_header, owns, found_hit, on_found, without_found}
use Rattle.plain.proofs.Closing.{job_of, Row, nothing_lost_by}

-- the live header n, with the expiry e
module _ (b : Bank) (t : Tables) (n e : ℕ) (f : Facts b t) (l : LiveAt t n) where
  abbrev h : Header
  h = header_at t.hs n

  aging : (t' : Tables) → t'.ps ≡ t.ps
      → ((i k m : ℕ) → LiveAt t' i → page_in t' i k ≡ page_at h m → page_at h m ≢ 0 → (header_at t'.hs i).expires ≤ e)
      → AllAging b e h.pages t'
  aging t' same cap m ne = record {
    high = ((f.header n).full l.used).small m;
    used = rw same (f.backed n l m ne).used;
    cap = λ i k l q. cap i k m l q ne;
  }

  -- only this header names its pages
  pub before_aging : h.expires ≤ e → AllAging b e h.pages t
  before_aging le =
      aging t refl (λ i k m l' q ne. rw (f.once i n l' l k m (λ z. ne (sym q ∙ z)) q).0 le)

  pub after_aging : (g : Header) (next : ℕ) → g.expires ≤ e → AllAging b e h.pages (with_header n g next t)
  after_aging g next le =
      aging (with_header n g next t) refl (λ i k m l' q ne. at_put no_header t.hs.headers n g (used_in t n l.used).0 (used_in t n l.used).1
      (λ i y. Live (clock_of t) y → page_at y k ≡ page_at h m → y.expires ≤ e)
      (λ _ _. le) (λ i d l'' q'. absurd (d (f.once i n l'' l k m (λ z. ne (sym q' ∙ z)) q').0)) i l' q)

  pub renewed_storable : (number k : ℕ) → clock_of t ≤ e → Long b e h t → Storable b t n number k (set_header_expiry (clock_of t) e h)
  renewed_storable number k late long =
      let s = live_storable b t n number k f l in
      record {
        low = s.low;
        high = s.high;
        used = s.used;
        made = omega (arith, s.made, s.past);
        past = omega arith;
        ends = late;
        sixteen = s.sixteen;
        from = s.from;
        backed = λ _ m ne. record { used = (f.backed n l m ne).used; long = long m ne };
      }

module _ (b : Bank) (now client : ℕ) (id : FileId) (expires : ℕ) (t₀ : Tables) where
  abbrev j : Job
  j = job_of b now (SetExpiry client id expires) t₀

  abbrev e : ℕ
  e = later expires now

  -- the header step on header g
  abbrev Stores : ℕ → Tables → Header → Type 0
  Stores n t g =
      Makes (λ i t'. Shows j (Phase.done (an_id (file_id i))) t' × AllAging b e g.pages t')
      (on_headers (replace_header n (set_header_expiry (clock_of t) (later expires (clock_of t)) g)) t)

  stores_at : (n : ℕ) (t : Tables) → Shows j Phase.waits t → Mine j id client n (header_at t.hs n) t.hs → Long b e (header_at t.hs n) t → Stores n t (header_at t.hs n)
  unfolding deed plain_set_expiry view
  stores_at n t s w long =
      let l = (found_hit t s w.0).live in
      let same : later expires (clock_of t) ≡ e = ap (later expires) s.clock in
      -- no page is new: which number and slot a new page would have does not matter
      stores {number = 0} {k = 0} (AllAging b e (header_at t.hs n).pages) t (λ x. cond (eqb x.0 id.0) None (files_of b t x)) _ s
      (renewed_storable b t n (later expires (clock_of t)) s.facts l 0 0 (omega arith) (λ m ne. omega (arith, long m ne))) (without_found t s w.0) refl
      (on_found t s w.0 _ ∙ rw w.1) (after_aging b t n e s.facts l _ _ (omega arith))

  module _ (n : ℕ) (g : Header) where
    stores_found : (t : Tables) → Shows j Phase.waits t → Mine j id client n g t.hs → Long b e g t → Stores n t g
    stores_found t s w = subst (λ (h : Header). Mine j id client n h t.hs → Long b e h t → Stores n t h) w.0.at (stores_at n t s) w

    sets_header : {X : Tables → Type 0} → ((t : Tables) → Shows j Phase.waits t → X t → Long b e g t × Mine j id client n g t.hs)
        → Does (Ended j) (Stands j Phase.waits X) (header_step (replace_header n (set_header_expiry now e g))) (λ i. Stands j (Phase.done (an_id (file_id i))) (AllAging b e g.pages))
    sets_header f =
        carries_out (λ c. replace_header n (set_header_expiry c (later expires c) g)) (λ i. an_id (file_id i)) (λ t s x. stores_found t s (f t s x).1 (f t s x).0)

    may_age : g.expires ≤ e → (t : Tables) → Shows j Phase.waits t → Mine j id client n g t.hs → AllAging b e g.pages t
    may_age le t s w = subst (λ (h : Header). h.expires ≤ e → AllAging b e h.pages t) w.0.at (before_aging b t n e s.facts (found_hit t s w.0).live) le

    outlived : e < g.expires → (t : Tables) → Shows j Phase.waits t → Mine j id client n g t.hs → Long b e g t
    outlived lt t s w =
        subst (λ (h : Header). e < h.expires → Long b e h t) w.0.at (λ lt m ne. omega (arith, (s.facts.backed n (found_hit t s w.0).live m ne).long)) lt

    abbrev Carried : ℕ → Claim
    Carried i = Stands j (Phase.done (an_id (file_id i))) Anything

    lengthens : leb g.expires e ≡ true
        → Does (Ended j) (Stands j Phase.waits (λ t. Mine j id client n g t.hs))
        (Steps.◌>>◌ (each_page (λ q. step (on_pages (set_page_expiry b e q))) g.pages) (header_step (replace_header n (set_header_expiry now e g)))) Carried
    lengthens le = do
      from (weaker (λ t s w. (may_age (leb-true _ _ le) t s w, w))) (lengthens_pages e g (Mine j id client n g))
      into (λ i. weaker (λ t _ _. tt)) (sets_header (λ t s w. w))

    shortens : leb g.expires e ≡ false
        → Does (Ended j) (Stands j Phase.waits (λ t. Mine j id client n g t.hs))
        (Steps.◌>>=◌ (header_step (replace_header n (set_header_expiry now e g))) (λ i. Steps.◌>>◌ (each_page (λ q. cleanup (on_pages (set_page_expiry b e q))) g.pages) (give i))) Carried
    shortens lt = do
      i ← sets_header (λ t s w. (outlived (leb-false _ _ lt) t s w, w))
      shortens_pages e g.pages
      gives i (λ u t s. s)

  set_expiry_row : Row (job_of b now (SetExpiry client id expires) t₀)
  unfolding steps_of set_expiry
  set_expiry_row = do
    n ← finds
    g ← reads_header n
    owns client g
    i ← chooses (leb g.expires e) (lengthens n g) (shortens n g)
    gives (an_id (file_id i)) (λ u t s. s.shows)

pub set_expiry_loses_nothing : (b : Bank) (client : ℕ) (id : FileId) (expires : ℕ) → NothingLost b (SetExpiry client id expires)
set_expiry_loses_nothing b client id expires = nothing_lost_by b (SetExpiry client id expires) (λ now t _. set_expiry_row b now client id expires t)
