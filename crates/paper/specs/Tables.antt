-- What the two tables hold, as records, and the words that the rules use of them.
use Rattle.std.specs.Prelude.{ℕ, Bool, false, not, ◌&&◌, ◌||◌, List, get_or, replicate, leb, ltb}
use Rattle.paper.specs.declared.Bank.{Bank}
use Rattle.paper.specs.declared.PageId.{PageId}
use Rattle.paper.specs.declared.PageNum.{PageNum}
use Rattle.paper.specs.declared.Control.{Control}
use Rattle.paper.specs.declared.Header.{Header}
use Rattle.paper.specs.Ids.{null_id, null_page_id}
use Rattle.paper.specs.Lists.{numbered, put_at}

-- 256 page slots; page contents 120 bytes
abbrev pub standard : Bank
standard = record { slots = 256; size = 120 }

-- 64 header slots
abbrev pub header_slots : ℕ
header_slots = 64

pub record Slot : Type 0 where
  pub used : Bool
  pub spare : ℕ
  pub expires : ℕ
  pub contents : List ℕ

-- The Header Store: the control record, with its spare bits as a number, and the header slots.
pub record HS : Type 0 where
  pub control : Control
  pub spare : ℕ
  pub headers : List Header

-- The Page Store: the page slots.
abbrev pub PS : Type 0
PS = List Slot

pub record Tables : Type 0 where
  pub hs : HS
  pub ps : PS

-- A record or slot not in use is all zero bits.
abbrev pub no_pages : List PageId
no_pages = replicate 16 null_page_id

abbrev pub no_header : Header
no_header = record { used = false; id = null_id; owner = 0; created = 0; updated = 0; expires = 0; pages = no_pages }

abbrev pub no_slot : Bank → Slot
no_slot b = record { used = false; spare = 0; expires = 0; contents = replicate b.size 0 }

-- Format: next id 1, clock 0 and zeros elsewhere
abbrev pub fresh : Bank → Tables
fresh b = record {
  hs = record { control = record { next = 1; clock = 0 }; spare = 0; headers = replicate header_slots no_header };
  ps = replicate b.slots (no_slot b);
}

-- in use and expires <= now
abbrev pub header_expired : ℕ → Header → Bool
header_expired now h = h.used && leb h.expires now

abbrev pub slot_expired : ℕ → Slot → Bool
slot_expired now s = s.used && leb s.expires now

-- A header in use is live at now when expires > now.
abbrev pub live : ℕ → Header → Bool
live now h = h.used && ltb now h.expires

-- A header or page slot is free at now when it is not in use or its expires <= now.
abbrev pub header_free : ℕ → Header → Bool
header_free now h = not h.used || leb h.expires now

abbrev pub slot_free : ℕ → Slot → Bool
slot_free now s = not s.used || leb s.expires now

abbrev pub clock_of : Tables → ℕ
clock_of t = t.hs.control.clock

abbrev pub header_at : HS → ℕ → Header
header_at s n = numbered no_header s.headers n

-- page id p is page slot p
abbrev pub slot_at : Bank → PS → PageId → Slot
slot_at b ps p = numbered (no_slot b) ps p.0

abbrev pub get_page_id : Header → PageNum → PageId
get_page_id h n = get_or h.pages n.0 null_page_id

-- The tables with one part changed.
abbrev pub put_header : ℕ → Header → HS → HS
put_header n h s = record { control = s.control; spare = s.spare; headers = put_at n h s.headers }

abbrev pub with_control : Control → HS → HS
with_control c s = record { control = c; spare = s.spare; headers = s.headers }

abbrev pub with_headers : List Header → HS → HS
with_headers hs s = record { control = s.control; spare = s.spare; headers = hs }

abbrev pub with_clock : ℕ → Tables → Tables
with_clock now t = record { hs = with_control (record { next = t.hs.control.next; clock = now }) t.hs; ps = t.ps }

abbrev pub put_slot : PageId → Slot → PS → PS
put_slot p s ps = put_at p.0 s ps
