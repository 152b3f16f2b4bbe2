-- What each step makes of its own store, by the step's own conditions: a slot or id number and the store then, or the refusal.
use Rattle.std.specs.Prelude.{ℕ, ◌+◌, Bool, true, ◌&&◌, cond, List, map, eqb, ltb, Some, None}
use Rattle.paper.specs.declared.Bank.{Bank}
use Rattle.paper.specs.declared.FileId.{FileId}
use Rattle.paper.specs.declared.PageId.{PageId}
use Rattle.paper.specs.declared.Control.{Control}
use Rattle.paper.specs.declared.Issued.{Issued}
use Rattle.paper.specs.declared.Header.{Header}
use Rattle.paper.specs.declared.Refusal.{Refusal}
use Rattle.paper.specs.declared.Refusal.TheVariants.{NoSuchFile, NoSpace, NoIds}
use Rattle.paper.specs.Ids.{file_id, page_id, no_more_ids}
use Rattle.paper.specs.Lists.{lowest, count}
use Rattle.paper.specs.Tables.{Slot, HS, PS, no_header, no_slot, live, header_free, slot_free, header_expired, slot_expired, slot_at, put_header, with_control, with_headers, put_slot}

pub data Try (S : Type 0) : Type 0 where
  gone : ℕ → S → Try S
  no : Refusal → Try S

-- Header Store

-- issues next id and raises it by 1
abbrev pub issued : Control → Issued
issued c = record { id = file_id c.next; control = record { next = c.next + 1; clock = c.clock } }

abbrev pub named : FileId → Header → Header
named id h = record {
  used = h.used;
  id = id;
  owner = h.owner;
  created = h.created;
  updated = h.updated;
  expires = h.expires;
  pages = h.pages;
}

-- Replacing keeps the slot; .. issues next id and raises it by 1 in the same step; at next id 2,147,483,648 the answer is NoIds.
unfoldable pub replace_header : ℕ → Header → HS → Try HS
replace_header n h s =
    let i = issued s.control in
    cond (ltb s.control.next no_more_ids)
    (gone i.id.0 (put_header n (named i.id h) (with_control i.control s)))
    (no NoIds)

-- A create takes the lowest free slot. No free header slot is NoSpace; that comes before NoIds.
unfoldable pub create_header : ℕ → Header → HS → Try HS
create_header now h s = elim (lowest (header_free now) s.headers) [ Some n ↦ replace_header n h s | None ↦ no NoSpace ]

-- A header is found only by an id in use and live at now.
abbrev pub has_id : ℕ → FileId → Header → Bool
has_id now id h = live now h && eqb h.id.0 id.0

unfoldable pub read_header : ℕ → FileId → HS → Try HS
read_header now id s = elim (lowest (has_id now id) s.headers) [ Some n ↦ gone n s | None ↦ no NoSuchFile ]

-- A destroy writes zeros over the slot.
unfoldable pub destroy_header : ℕ → HS → Try HS
destroy_header n s = gone n (put_header n no_header s)

-- zero every header in use with expires <= now
unfoldable pub scavenge_headers : ℕ → HS → Try HS
scavenge_headers now s =
    gone (count (header_expired now) s.headers) (with_headers (map (λ h. cond (header_expired now h) no_header h) s.headers) s)

-- Page Store

abbrev pub full_slot : List ℕ → ℕ → Slot
full_slot page e = record { used = true; spare = 0; expires = e; contents = page }

-- A create takes the lowest free slot and writes all of it.
unfoldable pub create_page : ℕ → List ℕ → ℕ → PS → Try PS
create_page now page e ps = elim (lowest (slot_free now) ps) [ Some n ↦ gone n (put_slot (page_id n) (full_slot page e) ps) | None ↦ no NoSpace ]

unfoldable pub read_page : PageId → PS → Try PS
read_page p ps = gone p.0 ps

unfoldable pub destroy_page : Bank → PageId → PS → Try PS
destroy_page b p ps = gone p.0 (put_slot p (no_slot b) ps)

abbrev pub expiring : ℕ → Slot → Slot
expiring e s = record { used = s.used; spare = s.spare; expires = e; contents = s.contents }

unfoldable pub set_page_expiry : Bank → ℕ → PageId → PS → Try PS
set_page_expiry b e p ps = gone p.0 (put_slot p (expiring e (slot_at b ps p)) ps)

-- the same for page slots
unfoldable pub scavenge_pages : Bank → ℕ → PS → Try PS
scavenge_pages b now ps = gone (count (slot_expired now) ps) (map (λ s. cond (slot_expired now s) (no_slot b) s) ps)
