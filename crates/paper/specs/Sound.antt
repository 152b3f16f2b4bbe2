-- S1 to S5, as tests: each of the table that it speaks of, S4 of both.
use Rattle.std.specs.Prelude.{ℕ, Bool, true, not, ◌&&◌, ◌||◌, cond, List, [], ◌∷◌, ◌++◌, map, leb, ltb}
use Rattle.paper.specs.declared.Bank.{Bank}
use Rattle.paper.specs.declared.PageId.{PageId}
use Rattle.paper.specs.declared.Control.{Control}
use Rattle.paper.specs.declared.Header.{Header}
use Rattle.paper.specs.Ids.{no_more_ids}
use Rattle.paper.specs.Lists.{all, those, distinct, is_zero}
use Rattle.paper.specs.Tables.{Slot, HS, PS, Tables, live, slot_at}

-- S1. Next id is 1 to 2,147,483,648; the control's spare bits are zero.
unfoldable pub s1 : HS → Bool
s1 s = leb 1 s.control.next && leb s.control.next no_more_ids && is_zero s.spare

-- S2. A header not in use is all zero.
unfoldable pub zero_header : Header → Bool
zero_header h =
    not h.used && is_zero h.id.0 && is_zero h.owner && is_zero h.created && is_zero h.updated && is_zero h.expires
    && all (λ (p : PageId). is_zero p.0) h.pages

-- One in use has an id from 1 to next id minus 1, ..; created <= updated <= c; updated <= expires; page ids at most 256.
unfoldable pub good_header : Bank → Control → Header → Bool
good_header b c h =
    leb 1 h.id.0 && ltb h.id.0 c.next
    && leb h.created h.updated && leb h.updated c.clock && leb h.updated h.expires
    && all (λ (p : PageId). leb p.0 b.slots) h.pages

unfoldable pub header_sound : Bank → Control → Header → Bool
header_sound b c h = cond h.used (good_header b c h) (zero_header h)

-- .. shared with no other.
unfoldable pub s2 : Bank → HS → Bool
s2 b s =
    all (header_sound b s.control) s.headers
    && distinct (map (λ (h : Header). h.id.0) (those (λ (h : Header). h.used) s.headers))

-- S3. A page slot not in use is all zero; one in use has its 31 bits zero.
unfoldable pub zero_slot : Slot → Bool
zero_slot s = not s.used && is_zero s.spare && is_zero s.expires && all is_zero s.contents

unfoldable pub slot_sound : Slot → Bool
slot_sound s = cond s.used (is_zero s.spare) (zero_slot s)

unfoldable pub s3 : PS → Bool
s3 ps = all slot_sound ps

-- S4. Each page id but 0 in a live header names a slot in use whose expires is at least the header's.
unfoldable pub held : Bank → PS → Header → PageId → Bool
held b ps h p = is_zero p.0 || ((slot_at b ps p).used && leb h.expires (slot_at b ps p).expires)

unfoldable pub s4 : Bank → Tables → Bool
s4 b t = all (λ (h : Header). cond (live t.hs.control.clock h) (all (held b t.ps h) h.pages) true) t.hs.headers

-- S5. No page id but 0 stands twice in the live headers, within one or across two.
unfoldable pub page_ids : List Header → List ℕ
page_ids [] = []
page_ids (h ∷ hs) = those (λ n. not (is_zero n)) (map (λ (p : PageId). p.0) h.pages) ++ page_ids hs

unfoldable pub s5 : HS → Bool
s5 s = distinct (page_ids (those (live s.control.clock) s.headers))

-- Tables are sound when all of these hold.
unfoldable pub sound : Bank → Tables → Bool
sound b t = s1 t.hs && s2 b t.hs && s3 t.ps && s4 b t && s5 t.hs
