-- What the caller of Write, Destroy and SetExpiry sees at each of their ends.
-- Assumes nothing.
use Prim.Native.Nat.{ℕ, ◌≤◌, ◌<◌}
use mathlib.Core.Path.{◌≡◌, refl}
use mathlib.Core.Bool.{false, true, cond}
use mathlib.Core.List.{List, [], ◌∷◌}
use borrow.Author.Tests.{le-leb, lt-leb}
use lib.Dec.{leb}
use Rattle.std.specs.Prelude.{Result, Ok, Err}
use Rattle.paper.specs.declared.Bank.{Bank}
use Rattle.paper.specs.declared.FileId.{FileId}
use Rattle.paper.specs.declared.PageId.{PageId}
use Rattle.paper.specs.declared.PageNum.{PageNum}
use Rattle.paper.specs.declared.Header.{Header}
use Rattle.paper.specs.declared.Refusal.{Refusal}
use Rattle.paper.specs.Ids.{later}
use Rattle.paper.specs.Tables.{HS, PS, header_at, get_page_id}
use Rattle.paper.specs.Stores.{create_page, destroy_page, destroy_header, replace_header}
use Rattle.paper.specs.Steps.{Steps, follow, ◌>>=◌, ◌>>◌, give, ask, settle, cleanup, marked, header_step, each_page, on_pages}
use Rattle.paper.specs.Answers.{Destroy, Write, SetExpiry, lent_page, Gift, nothing, an_id, no_gift, succeeded, refused, report}
use Rattle.paper.specs.Requests.{reply_of, steps_of, carry_out, write, destroy, set_expiry, put_page_id, set_header_expiry}
use Rattle.stores.specs.Geometry.{of_file, of_known}
use Rattle.requests.specs.Seen.{Shown, shows}
use Rattle.rows.specs.Standing.{standing}
use Rattle.rows.specs.declared.Deed.{Deed}
use Rattle.rows.specs.Rows.{clocked, each_deed}
use Rattle.requests.specs.Tails.{writing, issuing, lengthening, shortening}
use Rattle.rows.proofs.Steps.{header_step_lem, page_step}
use Rattle.requests.proofs.Runs.{tables, Took, Opens, Deeds, Sees, Replies, finished, opens}

module _ (b : Bank) (time : ℕ) (os : List ℕ) (client : ℕ) (id : FileId) (hs hs' : HS) (ps : PS) (clock : hs' ≡ clocked time hs) where
  pub destroy_stops : (a : Refusal) → Opens time client id os hs' ps (Err a) → Replies b time os (Destroy client id) hs ps (shows (refused a) [] (tables hs' ps))
  unfolding carry_out steps_of destroy lent_page follow settle reply_of
  destroy_stops a e = rw (← clock) (opens os [] time client id _ hs' ps (Err a) _ e refl)

  -- from step 2 on
  abbrev clearing : ℕ → Header → Steps Gift
  clearing n h = header_step (destroy_header n) >> (each_page (λ q. cleanup (on_pages (destroy_page b q))) h.pages >> give nothing)

  module _ (n : ℕ) (h : Header) (e : Opens time client id os hs' ps (Ok n)) (eh : h ≡ header_at hs' n) (hs'' : HS) where
    pub destroy_stops_second : (a : Refusal) → Took os 1 (destroy_header n) hs' (Err a) hs'' → Replies b time os (Destroy client id) hs ps (shows (refused a) [] (tables hs'' ps))
    unfolding carry_out steps_of destroy lent_page ◌>>=◌ ◌>>◌ follow settle ask marked header_step reply_of
    destroy_stops_second a e' = rw (← clock) (opens os [] time client id clearing hs' ps (Ok n) _ e (rw (← header_step_lem os 1 false _ _ _ _ _ e')))

    pub destroy_ends : (ps' : PS) (taken : ℕ) (r : Result (Unit {0}) Refusal) → Took os 1 (destroy_header n) hs' (Ok n) hs'' → Deeds b Deed.Destroy true h.pages os 2 ps (of_known 0 r) taken ps'
        → Replies b time os (Destroy client id) hs ps (shows (report no_gift r) [] (tables hs'' ps'))
    unfolding carry_out steps_of destroy lent_page ◌>>=◌ ◌>>◌ follow settle ask give marked header_step reply_of each_deed
    destroy_ends ps' taken (Ok u) e' e'' = rw (← clock) (opens os [] time client id clearing hs' ps (Ok n) _ e (rw (← header_step_lem os 1 false _ _ _ _ _ e', ← eh, ← e'' true hs'')))
    destroy_ends ps' taken (Err a) e' e'' = rw (← clock) (opens os [] time client id clearing hs' ps (Ok n) _ e (rw (← header_step_lem os 1 false _ _ _ _ _ e', ← eh, ← e'' true hs'')))

-- Write from step 2 on
module _ (b : Bank) (time : ℕ) (os : List ℕ) (n : ℕ) (h : Header) (number : PageNum) (page : List ℕ) (hs : HS) (ps ps' : PS) (eh : h ≡ header_at hs n) where
  abbrev Written : Shown → Type 0
  Written v = Sees os page (writing b time n (header_at hs n) number page) (standing 1 false hs ps) v

  pub write_stops_second : (a : Refusal) → Took os 1 (create_page time page h.expires) ps (Err a) ps' → Written (shows (refused a) page (tables hs ps'))
  unfolding writing ◌>>=◌ follow settle reply_of
  write_stops_second a e = rw (← eh, ← page_step os 1 false _ _ _ _ _ e)

  module _ (p : PageId) (w : Header) (e : Took os 1 (create_page time page h.expires) ps (Ok p.0) ps') (ew : w ≡ put_page_id time number p h) (hs' : HS) where
    pub write_stops_third : (a : Refusal) → Took os 2 (replace_header n w) hs (Err a) hs' → Written (shows (refused a) page (tables hs' ps'))
    unfolding writing ◌>>=◌ follow settle marked header_step reply_of
    write_stops_third a e' = rw (← eh, ← page_step os 1 false _ _ _ _ _ e, ← header_step_lem os 2 false _ _ _ _ _ (rw ew at e'))

    module _ (i : FileId) (e' : Took os 2 (replace_header n w) hs (Ok i.0) hs') (q : PageId) (eq : q ≡ get_page_id h number) (ps'' : PS) (taken : ℕ) where
      pub write_stops_last : (a : Refusal) → Deeds b Deed.Destroy true (q ∷ []) os 3 ps' (Err a) taken ps'' → Written (shows (refused a) page (tables hs' ps''))
      unfolding writing ◌>>=◌ ◌>>◌ follow settle marked header_step reply_of each_deed
      write_stops_last a e'' = rw (← eh, ← page_step os 1 false _ _ _ _ _ e, ← header_step_lem os 2 false _ _ _ _ _ (rw ew at e'), ← eq, ← e'' true hs')

      pub write_ends : (k : ℕ) → Deeds b Deed.Destroy true (q ∷ []) os 3 ps' (Ok k) taken ps'' → Written (shows (succeeded (an_id i)) page (tables hs' ps''))
      unfolding writing ◌>>=◌ ◌>>◌ follow settle give marked header_step reply_of each_deed
      write_ends k e'' = rw (← eh, ← page_step os 1 false _ _ _ _ _ e, ← header_step_lem os 2 false _ _ _ _ _ (rw ew at e'), ← eq, ← e'' true hs')

module _ (b : Bank) (time : ℕ) (os : List ℕ) (client : ℕ) (id : FileId) (number : PageNum) (page : List ℕ) (hs hs' : HS) (ps : PS) (clock : hs' ≡ clocked time hs) where
  pub write_stops : (a : Refusal) → Opens time client id os hs' ps (Err a) → Replies b time os (Write client id number page) hs ps (shows (refused a) page (tables hs' ps))
  unfolding carry_out steps_of write lent_page follow settle reply_of
  write_stops a e = rw (← clock) (opens os page time client id _ hs' ps (Err a) _ e refl)

  pub write_goes_on : (n : ℕ) (v : Shown) → Opens time client id os hs' ps (Ok n) → Sees os page (writing b time n (header_at hs' n) number page) (standing 1 false hs' ps) v
      → Replies b time os (Write client id number page) hs ps v
  unfolding carry_out steps_of write lent_page ◌>>=◌ follow settle ask writing
  write_goes_on n v e s = rw (← clock) (opens os page time client id (λ m h. writing b time m h number page) hs' ps (Ok n) v e s)

-- SetExpiry once the header is found: a life made longer
module _ (b : Bank) (time x : ℕ) (os : List ℕ) (n : ℕ) (h : Header) (hs : HS) (ps ps' : PS) (taken : ℕ) (eh : h ≡ header_at hs n) where
  abbrev Lengthened : Shown → Type 0
  Lengthened v = Sees os [] (issuing (lengthening b time x n (header_at hs n))) (standing 1 false hs ps) v

  pub lengthen_stops : (a : Refusal) → Deeds b (Deed.Expire x) false h.pages os 1 ps (Err a) taken ps' → Lengthened (shows (refused a) [] (tables hs ps'))
  unfolding lengthening ◌>>=◌ ◌>>◌ follow settle reply_of each_deed
  lengthen_stops a e = rw (← eh, ← e false hs)

  pub lengthen_ends : (m : ℕ) (w : Header) (hs' : HS) (r : Result FileId Refusal) → Deeds b (Deed.Expire x) false h.pages os 1 ps (Ok m) taken ps' → w ≡ set_header_expiry time x h
      → Took os taken (replace_header n w) hs (of_file r) hs' → Lengthened (shows (report an_id r) [] (tables hs' ps'))
  unfolding lengthening ◌>>=◌ ◌>>◌ follow settle header_step each_deed
  lengthen_ends m w hs' r e ew e' = rw (← eh, ← e false hs, ← header_step_lem os taken false _ _ _ _ _ (rw ew at e')) (finished os [] _ r)

-- and one made shorter
module _ (b : Bank) (time x : ℕ) (os : List ℕ) (n : ℕ) (h w : Header) (hs hs' : HS) (ps : PS) (eh : h ≡ header_at hs n) (ew : w ≡ set_header_expiry time x h) where
  abbrev Shortened : Shown → Type 0
  Shortened v = Sees os [] (issuing (shortening b time x n (header_at hs n))) (standing 1 false hs ps) v

  pub shorten_stops : (a : Refusal) → Took os 1 (replace_header n w) hs (Err a) hs' → Shortened (shows (refused a) [] (tables hs' ps))
  unfolding shortening ◌>>=◌ follow settle marked header_step reply_of
  shorten_stops a e = rw (← eh, ← header_step_lem os 1 false _ _ _ _ _ (rw ew at e))

  module _ (i : FileId) (e : Took os 1 (replace_header n w) hs (Ok i.0) hs') (ps' : PS) (taken : ℕ) where
    pub shorten_stops_later : (a : Refusal) → Deeds b (Deed.Expire x) true h.pages os 2 ps (Err a) taken ps' → Shortened (shows (refused a) [] (tables hs' ps'))
    unfolding shortening ◌>>=◌ ◌>>◌ follow settle marked header_step reply_of each_deed
    shorten_stops_later a e' = rw (← eh, ← header_step_lem os 1 false _ _ _ _ _ (rw ew at e), ← e' true hs')

    pub shorten_ends : (k : ℕ) → Deeds b (Deed.Expire x) true h.pages os 2 ps (Ok k) taken ps' → Shortened (shows (succeeded (an_id i)) [] (tables hs' ps'))
    unfolding shortening ◌>>=◌ ◌>>◌ follow settle give marked header_step reply_of each_deed
    shorten_ends k e' = rw (← eh, ← header_step_lem os 1 false _ _ _ _ _ (rw ew at e), ← e' true hs')

module _ (b : Bank) (time : ℕ) (os : List ℕ) (client : ℕ) (id : FileId) (expires : ℕ) (hs hs' : HS) (ps : PS) (clock : hs' ≡ clocked time hs) where
  pub set_expiry_stops : (a : Refusal) → Opens time client id os hs' ps (Err a) → Replies b time os (SetExpiry client id expires) hs ps (shows (refused a) [] (tables hs' ps))
  unfolding carry_out steps_of set_expiry lent_page follow settle reply_of
  set_expiry_stops a e = rw (← clock) (opens os [] time client id _ hs' ps (Err a) _ e refl)

  abbrev resetting : ℕ → Header → Steps Gift
  resetting n h = issuing (cond (leb h.expires (later expires time)) (lengthening b time (later expires time) n h) (shortening b time (later expires time) n h))

  module _ (n : ℕ) (h : Header) (x : ℕ) (v : Shown) (e : Opens time client id os hs' ps (Ok n)) (eh : h ≡ header_at hs' n) (late : x ≡ later expires time) where
    pub set_expiry_longer : h.expires ≤ x → Sees os [] (issuing (lengthening b time x n (header_at hs' n))) (standing 1 false hs' ps) v → Replies b time os (SetExpiry client id expires) hs ps v
    unfolding carry_out steps_of set_expiry lent_page ◌>>=◌ ◌>>◌ follow settle ask lengthening shortening
    set_expiry_longer l s =
        let longer : leb (header_at hs' n).expires (later expires time) ≡ true = rw (← eh, ← late) (le-leb h.expires x l) in
        rw (← clock) (opens os [] time client id resetting hs' ps (Ok n) v e (rw longer (rw late at s)))

    pub set_expiry_shorter : x < h.expires → Sees os [] (issuing (shortening b time x n (header_at hs' n))) (standing 1 false hs' ps) v → Replies b time os (SetExpiry client id expires) hs ps v
    unfolding carry_out steps_of set_expiry lent_page ◌>>=◌ ◌>>◌ follow settle ask lengthening shortening
    set_expiry_shorter l s =
        let shorter : leb (header_at hs' n).expires (later expires time) ≡ false = rw (← eh, ← late) (lt-leb h.expires x l) in
        rw (← clock) (opens os [] time client id resetting hs' ps (Ok n) v e (rw shorter (rw late at s)))
