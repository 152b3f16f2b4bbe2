-- What the caller of Create, Read, Info and Scavenge sees at each of their ends: each step is what its store's function ensures.
-- Assumes nothing.
use Prim.Native.Nat.{ℕ}
use mathlib.Core.Path.{◌≡◌, ap, ◌∙◌}
use mathlib.Core.Bool.{true, false, not}
use mathlib.Core.List.{List, []}
use borrow.Author.Tests.{ne_eqb}
use Rattle.std.specs.Prelude.{Result, Ok, Err}
use Rattle.paper.specs.declared.Bank.{Bank}
use Rattle.paper.specs.declared.FileId.{FileId}
use Rattle.paper.specs.declared.PageId.{PageId}
use Rattle.paper.specs.declared.PageNum.{PageNum}
use Rattle.paper.specs.declared.Header.{Header}
use Rattle.paper.specs.declared.Facts.{Facts}
use Rattle.paper.specs.declared.Refusal.{Refusal}
use Rattle.paper.specs.declared.Refusal.TheVariants.{NoSuchPage}
use Rattle.paper.specs.Ids.{later}
use Rattle.paper.specs.Lists.{is_zero}
use Rattle.paper.specs.Tables.{HS, PS, header_at, slot_at, get_page_id}
use Rattle.paper.specs.Stores.{read_header, create_header, create_page, read_page, scavenge_headers, scavenge_pages}
use Rattle.paper.specs.Steps.{follow, ◌>>=◌, ◌>>◌, give, refuse, ask, check, settle, header_step}
use Rattle.paper.specs.Answers.{Create, Read, Info, Scavenge, lent_page, an_id, facts, counts, no_gift, succeeded, refused, report}
use Rattle.paper.specs.Requests.{reply_of, steps_of, carry_out, create, read, info, scavenge, facts_of, make_header, put_page_id}
use Rattle.stores.specs.Geometry.{of_file, of_known, lent_after}
use Rattle.requests.specs.Seen.{shows}
use Rattle.rows.specs.Rows.{clocked}
use Rattle.rows.proofs.Steps.{header_step_lem, page_step}
use Rattle.requests.proofs.Runs.{tables, Took, Replies, finished}

module _ (b : Bank) (time : ℕ) (os : List ℕ) (id : FileId) (hs hs' : HS) (ps : PS) (clock : hs' ≡ clocked time hs) where
  pub info_stops : (a : Refusal) → Took os 0 (read_header time id) hs' (Err a) hs' → Replies b time os (Info id) hs ps (shows (refused a) [] (tables hs' ps))
  unfolding carry_out steps_of info lent_page ◌>>=◌ follow settle reply_of
  info_stops a e = rw (← clock, ← header_step_lem os 0 false _ _ _ _ _ e)

  pub info_tells : (n : ℕ) (h : Header) (f : Facts) → Took os 0 (read_header time id) hs' (Ok n) hs' → h ≡ header_at hs' n → f ≡ facts_of h
      → Replies b time os (Info id) hs ps (shows (succeeded (facts f)) [] (tables hs' ps))
  unfolding carry_out steps_of info lent_page ◌>>=◌ follow settle ask give reply_of
  info_tells n h f e eh ef = rw (← clock, ← header_step_lem os 0 false _ _ _ _ _ e, ef, eh)

module _ (b : Bank) (time : ℕ) (os : List ℕ) (client : ℕ) (number : PageNum) (page : List ℕ) (expires x : ℕ) (hs hs' : HS) (ps ps' : PS)
    (clock : hs' ≡ clocked time hs) (late : x ≡ later expires time) where
  pub create_stops : (a : Refusal) → Took os 0 (create_page time page x) ps (Err a) ps' → Replies b time os (Create client number page expires) hs ps (shows (refused a) page (tables hs' ps'))
  unfolding carry_out steps_of create lent_page ◌>>=◌ follow settle reply_of
  create_stops a e = rw (← clock, ← page_step os 0 false _ _ _ _ _ (rw late at e))

  pub create_ends : (p : PageId) (m h : Header) (hs'' : HS) (r : Result FileId Refusal) → Took os 0 (create_page time page x) ps (Ok p.0) ps'
      → m ≡ make_header time client x → h ≡ put_page_id time number p m → Took os 1 (create_header time h) hs' (of_file r) hs''
      → Replies b time os (Create client number page expires) hs ps (shows (report an_id r) page (tables hs'' ps'))
  unfolding carry_out steps_of create lent_page ◌>>=◌ follow settle header_step
  create_ends p m h hs'' r e em eh e' =
      rw (← clock, ← page_step os 0 false _ _ _ _ _ (rw late at e), ← header_step_lem os 1 false _ _ _ _ _ (rw (eh, em, late) at e')) (finished os page _ r)

module _ (b : Bank) (time : ℕ) (os : List ℕ) (hs hs' hs'' : HS) (ps : PS) (clock : hs' ≡ clocked time hs) where
  pub scavenge_stops : (a : Refusal) → Took os 0 (scavenge_headers time) hs' (Err a) hs'' → Replies b time os Scavenge hs ps (shows (refused a) [] (tables hs'' ps))
  unfolding carry_out steps_of scavenge lent_page ◌>>=◌ follow settle reply_of
  scavenge_stops a e = rw (← clock, ← header_step_lem os 0 false _ _ _ _ _ e)

  module _ (n : ℕ) (e : Took os 0 (scavenge_headers time) hs' (Ok n) hs'') (ps' : PS) where
    pub scavenge_stops_later : (a : Refusal) → Took os 1 (scavenge_pages b time) ps (Err a) ps' → Replies b time os Scavenge hs ps (shows (refused a) [] (tables hs'' ps'))
    unfolding carry_out steps_of scavenge lent_page ◌>>=◌ follow settle reply_of
    scavenge_stops_later a e' = rw (← clock, ← header_step_lem os 0 false _ _ _ _ _ e, ← page_step os 1 false _ _ _ _ _ e')

    pub scavenge_counts : (m : ℕ) → Took os 1 (scavenge_pages b time) ps (Ok m) ps' → Replies b time os Scavenge hs ps (shows (succeeded (counts (record { headers = n; pages = m }))) [] (tables hs'' ps'))
    unfolding carry_out steps_of scavenge lent_page ◌>>=◌ follow settle give reply_of
    scavenge_counts m e' = rw (← clock, ← header_step_lem os 0 false _ _ _ _ _ e, ← page_step os 1 false _ _ _ _ _ e')

module _ (b : Bank) (time : ℕ) (os : List ℕ) (id : FileId) (number : PageNum) (lent : List ℕ) (hs hs' : HS) (ps : PS) (clock : hs' ≡ clocked time hs) where
  pub read_stops : (a : Refusal) → Took os 0 (read_header time id) hs' (Err a) hs' → Replies b time os (Read id number lent) hs ps (shows (refused a) lent (tables hs' ps))
  unfolding carry_out steps_of read lent_page ◌>>=◌ follow settle reply_of
  read_stops a e = rw (← clock, ← header_step_lem os 0 false _ _ _ _ _ e)

  module _ (n : ℕ) (h : Header) (p : PageId) (e : Took os 0 (read_header time id) hs' (Ok n) hs') (eh : h ≡ header_at hs' n) (ep : p ≡ get_page_id h number) where
    page_is : p ≡ get_page_id (header_at hs' n) number
    page_is = ep ∙ ap (λ (q : Header). get_page_id q number) eh

    pub read_finds_none : p.0 ≡ 0 → Replies b time os (Read id number lent) hs ps (shows (refused NoSuchPage) lent (tables hs' ps))
    unfolding carry_out steps_of read lent_page ◌>>=◌ ◌>>◌ follow settle ask check refuse reply_of
    read_finds_none z =
        let none : not (is_zero (get_page_id (header_at hs' n) number).0) ≡ false = rw (← page_is, z) in
        rw (← clock, ← header_step_lem os 0 false _ _ _ _ _ e, none)

    module _ (there : p.0 ≡ 0 → ⊥) where
      is_there : not (is_zero (get_page_id (header_at hs' n) number).0) ≡ true
      is_there = rw (← page_is) (ap not (ne_eqb p.0 0 there))

      -- the page's step is the last, and the lent page shows what it read
      pub read_ends : (r : Result (Unit {0}) Refusal) → Took os 1 (read_page p) ps (of_known p.0 r) ps
          → Replies b time os (Read id number lent) hs ps (shows (report no_gift r) (lent_after r (slot_at b ps p).contents lent) (tables hs' ps))
      unfolding carry_out steps_of read lent_page ◌>>=◌ ◌>>◌ follow settle ask check give reply_of
      read_ends (Ok u) e' = rw (← clock, ← header_step_lem os 0 false _ _ _ _ _ e, is_there, ← page_is, ← page_step os 1 false _ _ hs' _ _ e')
      read_ends (Err a) e' = rw (← clock, ← header_step_lem os 0 false _ _ _ _ _ e, is_there, ← page_is, ← page_step os 1 false _ _ hs' _ _ e')
