-- The tests S1 to S5 and the facts say the same of tables: both ways, a rule at a time.
-- Assumes nothing.
use Prim.Native.Nat.{ℕ, zero, suc}
use mathlib.Core.Path.{◌≡◌, refl, sym, ap, subst, ◌∙◌}
use mathlib.Core.Logic.{◌≢◌}
use mathlib.Core.Bool.{Bool, true, false, not, cond, true≢false}
use mathlib.Core.List.{List, [], ◌∷◌, ◌++◌, map}
use native.Mathlib.Omega.{arith}
use borrow.Author.Tests.{leb-true, ltb-true, eqb-true, eqb-false, le-leb, lt-ltb, ne_eqb, not-true}
use lib.ListN.{length, get_or, replicate}
use lib.Dec.{leb, ltb, eqb, leb-zero}
use Rattle.paper.specs.declared.Bank.{Bank}
use Rattle.paper.specs.declared.PageId.{PageId}
use Rattle.paper.specs.declared.Control.{Control}
use Rattle.paper.specs.declared.Header.{Header}
use Rattle.paper.specs.Ids.{null_page_id, no_more_ids}
use Rattle.paper.specs.Lists.{all, those, distinct, is_zero, numbered}
use Rattle.paper.specs.Tables.{PS, Tables, no_header, no_slot, live, header_at}
use Rattle.paper.specs.Sound.{s1, s2, s3, s4, s5, sound, zero_header, good_header, header_sound, zero_slot, slot_sound, held, page_ids}
use Rattle.paper.proofs.Tests.{both}
use Rattle.plain.proofs.Lists.{both_true, all_anywhere, all_by, all_numbered, numbered_all, at-replicate}
use Rattle.plain.proofs.Distinct.{In, only, flat, in_flat, flat_once, once_flat, flat_in, single, map_those, those_map}
use Rattle.plain.proofs.Facts.{page_at, slot_of, InUse, HeaderFacts, Backs, Backed, IdOnce, PageOnce, Facts, live_facts, live_test, not_live}

-- S2 and S3 of one record

module _ (b : Bank) (c : Control) (h : Header) where
  good_facts : length h.pages ≡ 16 → good_header b c h ≡ true → InUse b c h
  unfolding good_header
  good_facts l e =
      let p₅ = both _ (all (λ (p : PageId). leb p.0 b.slots) h.pages) e in
      let p₄ = both _ (leb h.updated h.expires) p₅.0 in
      let p₃ = both _ (leb h.updated c.clock) p₄.0 in
      let p₂ = both _ (leb h.created h.updated) p₃.0 in
      let p₁ = both (leb 1 h.id.0) (ltb h.id.0 c.next) p₂.0 in
      record {
        id_low = leb-true _ _ p₁.0;
        id_high = ltb-true _ _ p₁.1;
        made = leb-true _ _ p₂.1;
        past = leb-true _ _ p₃.1;
        ends = leb-true _ _ p₄.1;
        sixteen = l;
        small = λ n. leb-true _ _ (all_anywhere (λ (p : PageId). leb p.0 b.slots) null_page_id (leb-zero b.slots) h.pages p₅.1 n);
      }

  facts_good : InUse b c h → good_header b c h ≡ true
  unfolding good_header
  facts_good u =
      rw (le-leb _ _ u.id_low, lt-ltb _ _ u.id_high, le-leb _ _ u.made, le-leb _ _ u.past, le-leb _ _ u.ends)
      (all_by (λ (p : PageId). leb p.0 b.slots) null_page_id h.pages (λ i. le-leb _ _ (u.small i)))

  abbrev As : Bool → Type 0
  As u = cond u (good_header b c h) (zero_header h) ≡ true

  header_facts : length h.pages ≡ 16 → header_sound b c h ≡ true → HeaderFacts b c h
  unfolding header_sound
  header_facts l e = record { blank = λ u. subst As u e; full = λ u. good_facts l (subst As u e) }

  facts_header : HeaderFacts b c h → header_sound b c h ≡ true
  unfolding header_sound
  facts_header f = go h.used refl
    where
      go : (u : Bool) → h.used ≡ u → header_sound b c h ≡ true
      go true e = subst As (sym e) (facts_good (f.full e))
      go false e = subst As (sym e) (f.blank e)

pub zeros_zero : zero_header no_header ≡ true
unfolding zero_header
zeros_zero = refl

pub zeros_slot : (b : Bank) → slot_sound (no_slot b) ≡ true
unfolding slot_sound zero_slot
zeros_slot b = all_by is_zero 0 (replicate b.size 0) (λ i. ap is_zero (at-replicate b.size i 0))

-- S4 and S5

module _ (b : Bank) (c : ℕ) (ps : PS) (h : Header) where
  held_facts : (n : ℕ) → held b ps h (get_or h.pages n null_page_id) ≡ true → page_at h n ≢ 0 → Backs (slot_of b ps (page_at h n)) h.expires
  unfolding held
  held_facts n e ne =
      let s = slot_of b ps (page_at h n) in
      let p = both s.used (leb h.expires s.expires) (rw (ne_eqb (page_at h n) 0 ne) at e) in
      record { used = p.0; long = leb-true _ _ p.1 }

  facts_held : (n : ℕ) → (page_at h n ≢ 0 → Backs (slot_of b ps (page_at h n)) h.expires) → held b ps h (get_or h.pages n null_page_id) ≡ true
  unfolding held
  facts_held n f = go (eqb (page_at h n) 0) refl
    where
      go : (z : Bool) → eqb (page_at h n) 0 ≡ z → held b ps h (get_or h.pages n null_page_id) ≡ true
      go true e = rw e
      go false e =
          let g = f (eqb-false (page_at h n) 0 e) in
          rw (e, g.used, le-leb _ _ g.long)

  abbrev backed_test : Bool
  backed_test = cond (live c h) (all (held b ps h) h.pages) true

  backed_facts : backed_test ≡ true → Backed b c ps h
  unfolding held
  backed_facts e l n =
      let all_held : all (held b ps h) h.pages ≡ true = subst (λ (u : Bool). cond u (all (held b ps h) h.pages) true ≡ true) (live_test c h l) e in
      held_facts n (all_anywhere (held b ps h) null_page_id refl h.pages all_held n)

  facts_backed : Backed b c ps h → backed_test ≡ true
  facts_backed f = go (live c h) refl
    where
      go : (u : Bool) → live c h ≡ u → backed_test ≡ true
      go true e =
          subst (λ (u : Bool). cond u (all (held b ps h) h.pages) true ≡ true) (sym e)
          (all_by (held b ps h) null_page_id h.pages (λ n. facts_held n (f (live_facts c h e) n)))
      go false e = subst (λ (u : Bool). cond u (all (held b ps h) h.pages) true ≡ true) (sym e) refl

-- the page ids that stand in a header, but 0
abbrev is_page : PageId → Bool
is_page p = not (is_zero p.0)

abbrev pages_of : Header → List ℕ
pages_of h = those (λ n. not (is_zero n)) (map (λ (p : PageId). p.0) h.pages)

page_ids_flat : (f : Header → Bool) (hs : List Header) → page_ids (those f hs) ≡ flat f pages_of hs
unfolding page_ids
page_ids_flat f [] = refl
page_ids_flat f (h ∷ hs) = go (f h) (page_ids_flat f hs)
  where
    go : (u : Bool) → page_ids (those f hs) ≡ flat f pages_of hs → page_ids (cond u (h ∷ those f hs) (those f hs)) ≡ cond u (pages_of h ++ flat f pages_of hs) (flat f pages_of hs)
    go true e = λ i. pages_of h ++ e i
    go false e = e

abbrev pages_flat : (h : Header) → pages_of h ≡ flat is_page (single (λ (p : PageId). p.0)) h.pages
pages_flat h = those_map (λ (p : PageId). p.0) (λ n. not (is_zero n)) h.pages

is_page_lem : (n : ℕ) → n ≢ 0 → not (is_zero n) ≡ true
is_page_lem n ne = rw (ne_eqb n 0 ne)

-- a number stands among a header's page ids when it stands at some page number and is not 0
module _ (h : Header) where
  in_pages_lem : (n : ℕ) → page_at h n ≢ 0 → In (page_at h n) (pages_of h)
  in_pages_lem n ne = rw (pages_flat h) (in_flat is_page (single (λ (p : PageId). p.0)) null_page_id refl (page_at h n) h.pages n (is_page_lem (page_at h n) ne) (In.here refl))

  pages_in_lem : (v : ℕ) → In v (pages_of h) → (n : ℕ) × (page_at h n ≢ 0) × (v ≡ page_at h n)
  pages_in_lem v i =
      let r = flat_in is_page (single (λ (p : PageId). p.0)) null_page_id refl v h.pages (rw (pages_flat h) at i) in
      (r.0, eqb-false _ _ (not-true _ r.1), only r.2)

  own_facts : distinct (pages_of h) ≡ true → (n m : ℕ) → page_at h n ≢ 0 → page_at h n ≡ page_at h m → n ≡ m
  own_facts e n m ne q =
      let o = flat_once is_page (single (λ (p : PageId). p.0)) null_page_id refl h.pages (rw (pages_flat h) at e) in
      o.other (page_at h n) n m (is_page_lem _ ne) (is_page_lem _ (λ z. ne (q ∙ z))) (In.here refl) (In.here q)

  facts_own : ((n m : ℕ) → page_at h n ≢ 0 → page_at h n ≡ page_at h m → n ≡ m) → distinct (pages_of h) ≡ true
  facts_own f =
      rw (pages_flat h) (once_flat is_page (single (λ (p : PageId). p.0)) null_page_id refl h.pages
      (record {
        own = λ i e. refl;
        other = λ v i j p q k l. f i j (eqb-false _ _ (not-true _ p)) (sym (only k) ∙ only l);
      }))

module _ (hs : List Header) where
  abbrev is_used : Header → Bool
  is_used h = h.used

  abbrev id_of : Header → ℕ
  id_of h = h.id.0

  ids_facts : distinct (map id_of (those is_used hs)) ≡ true → (i j : ℕ) → IdOnce i j (numbered no_header hs i) (numbered no_header hs j)
  unfolding numbered
  ids_facts e zero j u v q = absurd (true≢false (sym u))
  ids_facts e (suc i) zero u v q = absurd (true≢false (sym v))
  ids_facts e (suc i) (suc j) u v q =
      let o = flat_once is_used (single id_of) no_header refl hs (rw (map_those id_of is_used hs) at e) in
      ap suc (o.other _ i j u v (In.here refl) (In.here q))

  facts_ids : ((i j : ℕ) → IdOnce i j (numbered no_header hs i) (numbered no_header hs j)) → distinct (map id_of (those is_used hs)) ≡ true
  unfolding numbered
  facts_ids f =
      rw (map_those id_of is_used hs) (once_flat is_used (single id_of) no_header refl hs
      (record {
        own = λ i e. refl;
        other = λ v i j u w k l. omega (arith, f (suc i) (suc j) u w (sym (only k) ∙ only l));
      }))

  module _ (c : ℕ) where
    once_facts : distinct (page_ids (those (live c) hs)) ≡ true → (i j : ℕ) → PageOnce c i j (numbered no_header hs i) (numbered no_header hs j)
    unfolding numbered
    once_facts e zero j l k n m ne q = absurd (not_live c l)
    once_facts e (suc i) zero l k n m ne q = absurd (not_live c k)
    once_facts e (suc i) (suc j) l k n m ne q =
        let o = flat_once (live c) pages_of no_header refl hs (rw (page_ids_flat (live c) hs) at e) in
        let g = get_or hs i no_header in
        let h = get_or hs j no_header in
        let there : In (page_at g n) (pages_of h) = subst (λ (v : ℕ). In v (pages_of h)) (sym q) (in_pages_lem h m (λ z. ne (q ∙ z))) in
        let same : i ≡ j = o.other (page_at g n) i j (live_test c g l) (live_test c h k) (in_pages_lem g n ne) there in
        let here : page_at g n ≡ page_at g m = subst (λ (x : ℕ). page_at g n ≡ page_at (get_or hs x no_header) m) (sym same) q in
        (ap suc same, own_facts g (o.own i (live_test c g l)) n m ne here)

    facts_once : ((i j : ℕ) → PageOnce c i j (numbered no_header hs i) (numbered no_header hs j)) → distinct (page_ids (those (live c) hs)) ≡ true
    unfolding numbered
    facts_once f =
        rw (page_ids_flat (live c) hs) (once_flat (live c) pages_of no_header refl hs (record { own = own; other = other }))
      where
        own : (i : ℕ) → live c (get_or hs i no_header) ≡ true → distinct (pages_of (get_or hs i no_header)) ≡ true
        own i e = facts_own (get_or hs i no_header) (λ n m ne q. (f (suc i) (suc i) (live_facts c _ e) (live_facts c _ e) n m ne q).1)

        other : (v i j : ℕ) → live c (get_or hs i no_header) ≡ true → live c (get_or hs j no_header) ≡ true → In v (pages_of (get_or hs i no_header)) → In v (pages_of (get_or hs j no_header)) → i ≡ j
        other v i j l k p q =
            let x = pages_in_lem (get_or hs i no_header) v p in
            let y = pages_in_lem (get_or hs j no_header) v q in
            omega (arith, (f (suc i) (suc j) (live_facts c _ l) (live_facts c _ k) x.0 y.0 x.1 (sym x.2 ∙ y.2)).0)

-- the tables

module _ (b : Bank) (t : Tables) where
  abbrev hs : List Header
  hs = t.hs.headers

  abbrev backs : Header → Bool
  backs h = cond (live t.hs.control.clock h) (all (held b t.ps h) h.pages) true

  pub sound_facts : ((n : ℕ) → length (header_at t.hs n).pages ≡ 16) → length t.ps ≡ b.slots → sound b t ≡ true → Facts b t
  unfolding sound s1 s2 s3 s4 s5 header_sound slot_sound zero_header
  sound_facts sixteen whole e =
      let p₅ = both _ (s5 t.hs) e in
      let p₄ = both _ (s4 b t) p₅.0 in
      let p₃ = both _ (s3 t.ps) p₄.0 in
      let p₂ = both (s1 t.hs) (s2 b t.hs) p₃.0 in
      let s₁ = both _ (is_zero t.hs.spare) p₂.0 in
      let n₁ = both (leb 1 t.hs.control.next) (leb t.hs.control.next no_more_ids) s₁.0 in
      let s₂ = both (all (header_sound b t.hs.control) hs) _ p₂.1 in
      record {
        count = whole;
        next_low = leb-true _ _ n₁.0;
        next_high = leb-true _ _ n₁.1;
        spare = eqb-true _ _ s₁.1;
        header = λ n. header_facts b t.hs.control _ (sixteen n) (all_numbered (header_sound b t.hs.control) no_header refl hs s₂.0 n);
        slot = all_numbered slot_sound (no_slot b) (zeros_slot b) t.ps p₃.1;
        ids = ids_facts hs s₂.1;
        backed = λ n. backed_facts b _ t.ps _ (all_numbered backs no_header refl hs p₄.1 n);
        once = once_facts hs _ p₅.1;
      }

  pub facts_sound : Facts b t → sound b t ≡ true
  unfolding sound s1 s2 s3 s4 s5
  facts_sound f =
      let s₁ : s1 t.hs ≡ true = rw (le-leb _ _ f.next_low, le-leb _ _ f.next_high, f.spare) in
      let s₂ : s2 b t.hs ≡ true = both_true _ _
      (numbered_all (header_sound b t.hs.control) no_header hs (λ n. facts_header b t.hs.control _ (f.header n)))
      (facts_ids hs f.ids) in
      let s₃ : s3 t.ps ≡ true = numbered_all slot_sound (no_slot b) t.ps f.slot in
      let s₄ : s4 b t ≡ true = numbered_all backs no_header hs (λ n. facts_backed b _ t.ps _ (f.backed n)) in
      let s₅ : s5 t.hs ≡ true = facts_once hs _ f.once in
      both_true _ _ (both_true _ _ (both_true _ _ (both_true _ _ s₁ s₂) s₃) s₄) s₅
