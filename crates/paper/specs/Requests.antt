-- The requests, each as its row of steps.
use Rattle.std.specs.Prelude.{ℕ, Bool, true, false, not, ◌&&◌, cond, List, [], ◌∷◌, set, length, leb, eqb, Result, Ok, Err}
use Rattle.paper.specs.declared.Bank.{Bank}
use Rattle.paper.specs.declared.FileId.{FileId}
use Rattle.paper.specs.declared.PageId.{PageId}
use Rattle.paper.specs.declared.PageNum.{PageNum}
use Rattle.paper.specs.declared.Header.{Header}
use Rattle.paper.specs.declared.Facts.{Facts}
use Rattle.paper.specs.declared.Refusal.{Refusal}
use Rattle.paper.specs.declared.Refusal.TheVariants.{BadCall, Damaged, ClockBack, NotOwner, NoSuchPage}
use Rattle.paper.specs.Ids.{file_id, page_id, null_id, later}
use Rattle.paper.specs.Lists.{all, is_zero}
use Rattle.paper.specs.Tables.{Tables, no_pages, clock_of, header_at, slot_at, get_page_id, with_clock}
use Rattle.paper.specs.Sound.{sound}
use Rattle.paper.specs.Stores.{create_page, read_page, destroy_page, set_page_expiry, scavenge_pages, create_header, read_header, replace_header, destroy_header, scavenge_headers}
use Rattle.paper.specs.Steps.{Run, on, end, Steps, ◌>>=◌, ◌>>◌, give, ask, check, step, cleanup, header_step, each_page, on_headers, on_pages}
use Rattle.paper.specs.Answers.{Request, Create, Write, Read, Info, Destroy, SetExpiry, Scavenge, lent_page, Report, Gift, nothing, an_id, facts, counts, contents, succeeded, refused, page_after}

-- a header without pages; its id comes from the step that stores it
abbrev pub make_header : ℕ → ℕ → ℕ → Header
make_header now client e = record { used = true; id = null_id; owner = client; created = now; updated = now; expires = e; pages = no_pages }

abbrev pub put_page_id : ℕ → PageNum → PageId → Header → Header
put_page_id now n p h = record {
  used = h.used;
  id = h.id;
  owner = h.owner;
  created = h.created;
  updated = now;
  expires = h.expires;
  pages = set h.pages n.0 p;
}

abbrev pub set_header_expiry : ℕ → ℕ → Header → Header
set_header_expiry now e h = record {
  used = h.used;
  id = h.id;
  owner = h.owner;
  created = h.created;
  updated = now;
  expires = e;
  pages = h.pages;
}

abbrev pub facts_of : Header → Facts
facts_of h = record { owner = h.owner; created = h.created; updated = h.updated; expires = h.expires }

-- The header is unpacked afterwards from the slot.
abbrev pub header_in : ℕ → Tables → Header
header_in n t = header_at t.hs n

abbrev pub check_owner : ℕ → Header → Steps ℕ
check_owner client h = check (eqb h.owner client) NotOwner

abbrev pub check_page_id : PageId → Steps ℕ
check_page_id p = check (not (is_zero p.0)) NoSuchPage

-- Create: let e be the later of expires and now. 1 create page with expiry e; 2 create header: owner client,
-- created = updated = now, expires e, that one page id.
unfoldable pub create : ℕ → ℕ → PageNum → List ℕ → ℕ → Steps Gift
create now client number page expires =
    let e = later expires now in
    do
      p ← step (on_pages (create_page now page e))
      i ← header_step (create_header now (put_page_id now number (page_id p) (make_header now client e)))
      give (an_id (file_id i))

-- Write: 1 read header; owner check; 2 create page with the header's expiry; 3 replace header, updated = now;
-- 4 destroy the former page, if any.
unfoldable pub write : Bank → ℕ → ℕ → FileId → PageNum → List ℕ → Steps Gift
write b now client id number page = do
  n ← step (on_headers (read_header now id))
  h ← ask (header_in n)
  check_owner client h
  p ← step (on_pages (create_page now page h.expires))
  i ← header_step (replace_header n (put_page_id now number (page_id p) h))
  each_page (λ q. cleanup (on_pages (destroy_page b q))) (get_page_id h number ∷ [])
  give (an_id (file_id i))

-- Read: 1 read header; page check; 2 read page into the lent page.
unfoldable pub read : Bank → ℕ → FileId → PageNum → Steps Gift
read b now id number = do
  n ← step (on_headers (read_header now id))
  h ← ask (header_in n)
  check_page_id (get_page_id h number)
  p ← step (on_pages (read_page (get_page_id h number)))
  c ← ask (λ t. (slot_at b t.ps (page_id p)).contents)
  give (contents c)

-- Info: 1 read header; gives owner, created, updated, expires.
unfoldable pub info : ℕ → FileId → Steps Gift
info now id = do
  n ← step (on_headers (read_header now id))
  h ← ask (header_in n)
  give (facts (facts_of h))

-- Destroy: 1 read header; owner check; 2 destroy header; then destroy each page, by rising page number.
unfoldable pub destroy : Bank → ℕ → ℕ → FileId → Steps Gift
destroy b now client id = do
  n ← step (on_headers (read_header now id))
  h ← ask (header_in n)
  check_owner client h
  header_step (destroy_header n)
  each_page (λ q. cleanup (on_pages (destroy_page b q))) h.pages
  give nothing

-- SetExpiry: e as in Create. 1 read header; owner check. If e is at least the old expiry: set each page's expiry to e,
-- by rising number, then replace the header. Otherwise replace the header, then set each page.
unfoldable pub set_expiry : Bank → ℕ → ℕ → FileId → ℕ → Steps Gift
set_expiry b now client id expires =
    let e = later expires now in
    do
      n ← step (on_headers (read_header now id))
      h ← ask (header_in n)
      check_owner client h
      i ←
          cond (leb h.expires e)
          (do
            each_page (λ q. step (on_pages (set_page_expiry b e q))) h.pages
            header_step (replace_header n (set_header_expiry now e h)))
          (do
            i ← header_step (replace_header n (set_header_expiry now e h))
            each_page (λ q. cleanup (on_pages (set_page_expiry b e q))) h.pages
            give i)
      give (an_id (file_id i))

-- Scavenge: 1 zero every header in use with expires <= now; 2 the same for page slots. Gives both numbers.
unfoldable pub scavenge : Bank → ℕ → Steps Gift
scavenge b now = do
  h ← step (on_headers (scavenge_headers now))
  p ← step (on_pages (scavenge_pages b now))
  give (counts (record { headers = h; pages = p }))

unfoldable pub steps_of : Bank → ℕ → Request → Steps Gift
steps_of b now (Create client number page expires) = create now client number page expires
steps_of b now (Write client id number page) = write b now client id number page
steps_of b now (Read id number lent) = read b now id number
steps_of b now (Info id) = info now id
steps_of b now (Destroy client id) = destroy b now client id
steps_of b now (SetExpiry client id expires) = set_expiry b now client id expires
steps_of b now Scavenge = scavenge b now

-- What a request answers and leaves: the report, the lent page, the tables; and whether its header step went through.
pub record Reply : Type 0 where
  pub report : Report
  pub page : List ℕ
  pub tables : Tables
  pub past : Bool

unfoldable pub reply_of : List ℕ → Run Gift → Reply
reply_of lent (on g s) = record { report = succeeded g; page = page_after g lent; tables = s.tables; past = s.past }
reply_of lent (end a s) = record { report = refused a; page = lent; tables = s.tables; past = s.past }

-- All but Format and Look store now as the clock before step 1.
unfoldable pub carry_out : Bank → ℕ → List ℕ → Request → Tables → Reply
carry_out b now os r t = reply_of (lent_page r) (steps_of b now r os (record { taken = 0; past = false; tables = with_clock now t }))

-- BadCall, but for the lengths of the tables: a page number above 15, a page of another length
unfoldable pub page_fits : Bank → PageNum → List ℕ → Bool
page_fits b number page = leb number.0 15 && eqb (length page) b.size

unfoldable pub well_formed : Bank → Request → Bool
well_formed b (Create client number page expires) = page_fits b number page
well_formed b (Write client id number page) = page_fits b number page
well_formed b (Read id number lent) = page_fits b number lent
well_formed b (Info id) = true
well_formed b (Destroy client id) = true
well_formed b (SetExpiry client id expires) = true
well_formed b Scavenge = true

-- an outcome list of 18 bytes, none above 2
abbrev pub outcomes_fit : List ℕ → Bool
outcomes_fit os = eqb (length os) 18 && all (λ o. leb o 2) os

-- BadCall, Damaged and ClockBack are checked in that order before all else
unfoldable pub checked : Bank → ℕ → List ℕ → Request → Tables → Result (Unit {0}) Refusal
checked b now os r t =
    cond (well_formed b r && outcomes_fit os)
    (cond (sound b t)
    (cond (leb (clock_of t) now) (Ok tt) (Err ClockBack))
    (Err Damaged))
    (Err BadCall)

-- after these three nothing is changed
unfoldable pub serve : Bank → ℕ → List ℕ → Request → Tables → Reply
serve b now os r t =
    elim (checked b now os r t) [
      | Ok u ↦ carry_out b now os r t
      | Err a ↦ record { report = refused a; page = lent_page r; tables = t; past = false }
    ]
