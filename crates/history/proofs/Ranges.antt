-- Tables within the ranges of their layouts, and that each step of a store leaves them so.
-- Assumes nothing.
use Prim.Native.Nat.{ℕ, zero, suc, ◌^◌, ◌<◌, ◌≤◌}
use mathlib.Core.Path.{◌≡◌, refl, ◌∙◌}
use mathlib.Core.Bool.{Bool, true, false, cond}
use mathlib.Core.List.{List, map}
use Rattle.std.specs.Prelude.{Option, Some, None}
use native.Mathlib.Omega.{arith}
use borrow.Author.Tests.{ltb-true}
use lib.ListN.{get_or, set, replicate, length-map, length-replicate}
use lib.Dec.{ltb}
use Rattle.paper.specs.declared.Bank.{Bank}
use Rattle.paper.specs.declared.FileId.{FileId}
use Rattle.paper.specs.declared.PageId.{PageId}
use Rattle.paper.specs.declared.Header.{Header}
use Rattle.paper.specs.declared.Refusal.TheVariants.{NoSuchFile, NoSpace}
use Rattle.paper.specs.Ids.{no_more_ids}
use Rattle.paper.specs.Lists.{numbered, put_at, lowest}
use Rattle.paper.specs.Tables.{Slot, HS, PS, Tables, no_header, no_slot, fresh, header_slots, header_at, header_free, slot_free, header_expired, slot_expired, put_header, with_control, with_clock}
use Rattle.paper.specs.Stores.{Try, gone, no, issued, named, has_id, create_header, replace_header, read_header, destroy_header, scavenge_headers, full_slot, create_page, read_page, destroy_page, set_page_expiry, scavenge_pages}
use Rattle.paper.specs.Steps.{step, cleanup, header_step, on_headers, in_headers, on_pages, in_pages}
use Rattle.records.specs.Fits.{HeaderFits, SlotFits, Each, HSFits, PSFits}
use Rattle.records.specs.Fits.Each.{none, one}
use Rattle.bits.proofs.Within.{within_test}
use Rattle.paper.proofs.Searched.{page_none, page_at_lem}
use Rattle.stores.proofs.Slots.{no_slot_fits, expiring_fits}
use Rattle.stores.proofs.HeaderSlots.{zeros_fit, named_fits, issued_fits}
use Rattle.rows.proofs.Clock.{clock_fits}
use Rattle.plain.proofs.Lists.{Search, search_of, length_put}
use Rattle.history.proofs.Keeping.{Keeping, Any, Leaves, keeps_step, keeps_cleanup, keeps_header}
use Rattle.history.proofs.Keeping.Leaves.{through, refused}

pub record Fit (b : Bank) (t : Tables) : Type 0 where
  pub headers : HSFits t.hs
  pub pages : PSFits b t.ps

-- what x and each of a list have, each has where x is put, and one that is looked up with x for none

module _ {A : Type 0} {P : A → Type 0} (x : A) (p : P x) where
  each_set : {xs : List A} (i : ℕ) → Each P xs → Each P (set xs i x)
  each_set i none = none
  each_set zero (one q r) = one p r
  each_set (suc i) (one q r) = one q (each_set i r)

  each_put : {xs : List A} (n : ℕ) → Each P xs → Each P (put_at n x xs)
  unfolding put_at
  each_put zero r = r
  each_put (suc i) r = each_set i r

  each_at : {xs : List A} (i : ℕ) → Each P xs → P (get_or xs i x)
  each_at i none = p
  each_at zero (one q r) = q
  each_at (suc i) (one q r) = each_at i r

  each_numbered : {xs : List A} (n : ℕ) → Each P xs → P (numbered x xs n)
  unfolding numbered
  each_numbered zero r = p
  each_numbered (suc i) r = each_at i r

  each_replicate : (n : ℕ) → Each P (replicate n x)
  each_replicate zero = none
  each_replicate (suc n) = one p (each_replicate n)

  each_swept : (f : A → Bool) {xs : List A} → Each P xs → Each P (map (λ y. cond (f y) x y) xs)
  each_swept f none = none
  each_swept f (one {x = y} q r) = one (go (f y)) (each_swept f r)
    where
      go : (u : Bool) → P (cond u x y)
      go true = p
      go false = q

-- the Header Store

pub header_fits : (n : ℕ) (s : HS) → HSFits s → HeaderFits (header_at s n)
header_fits n s f = each_numbered no_header zeros_fit n f.headers

put_fits : (n : ℕ) (h : Header) (s : HS) → HeaderFits h → HSFits s → HSFits (put_header n h s)
put_fits n h s fh f = record { control = f.control; headers = each_put h fh n f.headers; count = length_put n h s.headers ∙ f.count }

pub replace_fits : (n : ℕ) (h : Header) → HeaderFits h → (s : HS) → HSFits s → Leaves HSFits Any (replace_header n h s)
unfolding replace_header
replace_fits n h fh s f = go (ltb s.control.next no_more_ids) refl
  where
    go : (u : Bool) → ltb s.control.next no_more_ids ≡ u → Leaves HSFits Any (replace_header n h s)
    go true e =
        let i = issued s.control in
        let room = ltb-true _ _ e in
        let raised : HSFits (with_control i.control s) = record { control = issued_fits s.control s.spare f.control room; headers = f.headers; count = f.count } in
        rw (e, replace_header) (through (put_fits n (named i.id h) (with_control i.control s) (named_fits i.id h fh room) raised) tt)
    go false e = rw (e, replace_header) refused

pub create_fits : (now : ℕ) (h : Header) → HeaderFits h → (s : HS) → HSFits s → Leaves HSFits Any (create_header now h s)
unfolding create_header
create_fits now h fh s f = go (lowest (header_free now) s.headers)
  where
    go : (r : Option ℕ) → Leaves HSFits Any (elim r [ Some n ↦ replace_header n h s | None ↦ no NoSpace ])
    go (Some n) = replace_fits n h fh s f
    go None = refused

pub read_fits : (now : ℕ) (id : FileId) (s : HS) → HSFits s → Leaves HSFits Any (read_header now id s)
unfolding read_header
read_fits now id s f = go (lowest (has_id now id) s.headers)
  where
    go : (r : Option ℕ) → Leaves HSFits Any (elim r [ Some n ↦ gone n s | None ↦ no NoSuchFile ])
    go (Some n) = through f tt
    go None = refused

pub destroy_fits : (n : ℕ) (s : HS) → HSFits s → Leaves HSFits Any (destroy_header n s)
unfolding destroy_header
destroy_fits n s f = through (put_fits n no_header s zeros_fit f) tt

pub scavenge_fits : (now : ℕ) (s : HS) → HSFits s → Leaves HSFits Any (scavenge_headers now s)
unfolding scavenge_headers
scavenge_fits now s f = through (record {
  control = f.control;
  headers = each_swept no_header zeros_fit (header_expired now) f.headers;
  count = length-map s.headers (λ h. cond (header_expired now h) no_header h) ∙ f.count;
}) tt

-- the Page Store

module _ (b : Bank) where
  put_slot_fits : (k : ℕ) (s : Slot) (ps : PS) → SlotFits b s → PSFits b ps → PSFits b (put_at k s ps)
  put_slot_fits k s ps fs f = record { slots = each_put s fs k f.slots; count = length_put k s ps ∙ f.count }

  -- the page id given is one of the bank
  pub create_page_fits : (now e : ℕ) (page : List ℕ) → SlotFits b (full_slot page e) → (ps : PS) → PSFits b ps → Leaves (PSFits b) (λ p. p ≤ b.slots) (create_page now page e ps)
  create_page_fits now e page fs ps f = go (search_of (slot_free now) (no_slot b) ps)
    where
      go : Search (slot_free now) (no_slot b) ps → Leaves (PSFits b) (λ p. p ≤ b.slots) (create_page now page e ps)
      go (Search.found p g lo hi q) =
          let few : p ≤ b.slots = omega (arith, f.count) in
          rw (page_at_lem now e page ps p g) (through (put_slot_fits p (full_slot page e) ps fs f) few)
      go (Search.missed g h) = rw (page_none now e page ps g) refused

  pub read_page_fits : (p : PageId) (ps : PS) → PSFits b ps → Leaves (PSFits b) Any (read_page p ps)
  unfolding read_page
  read_page_fits p ps f = through f tt

  pub destroy_page_fits : (p : PageId) (ps : PS) → PSFits b ps → Leaves (PSFits b) Any (destroy_page b p ps)
  unfolding destroy_page
  destroy_page_fits p ps f = through (put_slot_fits p.0 (no_slot b) ps (no_slot_fits b) f) tt

  pub expiry_fits : (e : ℕ) → e < 2 ^ 32 → (p : PageId) (ps : PS) → PSFits b ps → Leaves (PSFits b) Any (set_page_expiry b e p ps)
  unfolding set_page_expiry
  expiry_fits e l p ps f = through (put_slot_fits p.0 _ ps (expiring_fits b e _ l (each_numbered (no_slot b) (no_slot_fits b) p.0 f.slots)) f) tt

  pub scavenge_pages_fits : (now : ℕ) (ps : PS) → PSFits b ps → Leaves (PSFits b) Any (scavenge_pages b now ps)
  unfolding scavenge_pages
  scavenge_pages_fits now ps f = through (record {
    slots = each_swept (no_slot b) (no_slot_fits b) (slot_expired now) f.slots;
    count = length-map ps (λ s. cond (slot_expired now s) (no_slot b) s) ∙ f.count;
  }) tt

  pub clocked_fits : (now : ℕ) (t : Tables) → now < 2 ^ 32 → Fit b t → Fit b (with_clock now t)
  clocked_fits now t l w = record {
    headers = record { control = clock_fits t.hs.control t.hs.spare now l w.headers.control; headers = w.headers.headers; count = w.headers.count };
    pages = w.pages;
  }

  pub fresh_fits : Fit b (fresh b)
  fresh_fits = record {
    headers = record { control = within_test _ _ tt; headers = each_replicate no_header zeros_fit header_slots; count = refl };
    pages = record { slots = each_replicate (no_slot b) (no_slot_fits b) b.slots; count = length-replicate b.slots (no_slot b) };
  }

-- a step on either store, in a row that keeps both within their ranges

module _ {b : Bank} {Q : ℕ → Type 0} where
  module _ {f : HS → Try HS} (k : (s : HS) → HSFits s → Leaves HSFits Q (f s)) where
    in_headers_lem : (t : Tables) → Fit b t → Leaves (Fit b) Q (on_headers f t)
    unfolding in_headers
    in_headers_lem t w = go (f t.hs) (k t.hs w.headers)
      where
        go : (r : Try HS) → Leaves HSFits Q r → Leaves (Fit b) Q (in_headers r t)
        go (gone n s) (through p q) = through (record { headers = p; pages = w.pages }) q
        go (no a) l = refused

    pub on_headers_lem : Keeping (Fit b) (step (on_headers f)) Q
    on_headers_lem = keeps_step (on_headers f) in_headers_lem

    pub at_header : Keeping (Fit b) (header_step f) Q
    at_header = keeps_header f on_headers_lem

  module _ {f : PS → Try PS} (k : (ps : PS) → PSFits b ps → Leaves (PSFits b) Q (f ps)) where
    in_pages_lem : (t : Tables) → Fit b t → Leaves (Fit b) Q (on_pages f t)
    unfolding in_pages
    in_pages_lem t w = go (f t.ps) (k t.ps w.pages)
      where
        go : (r : Try PS) → Leaves (PSFits b) Q r → Leaves (Fit b) Q (in_pages r t)
        go (gone n s) (through p q) = through (record { headers = w.headers; pages = p }) q
        go (no a) l = refused

    pub on_pages_lem : Keeping (Fit b) (step (on_pages f)) Q
    on_pages_lem = keeps_step (on_pages f) in_pages_lem

pub after_pages : {b : Bank} {f : PS → Try PS} → ((ps : PS) → PSFits b ps → Leaves (PSFits b) Any (f ps)) → Keeping (Fit b) (cleanup (on_pages f)) Any
after_pages {f = f} k = keeps_cleanup (on_pages f) (in_pages_lem k)
