-- The map of page slots seen, and the headers tested one after the other over it. Only contracts of this crate's own functions cite these.
use Rattle.std.specs.Prelude.{ℕ, zero, suc, ◌≤◌, ◌≡◌, Bool, true, false, not, ◌&&◌, ◌||◌, cond, List, [], ◌∷◌, map, length, get_or, set, replicate, leb, ltb, Option, Some, None, Result, Ok, Err}
use Rattle.paper.specs.declared.Bank.{Bank}
use Rattle.paper.specs.declared.PageId.{PageId}
use Rattle.paper.specs.declared.Control.{Control}
use Rattle.paper.specs.declared.Header.{Header}
use Rattle.paper.specs.Lists.{those, is_zero}
use Rattle.paper.specs.Tables.{PS, live, slot_at}
use Rattle.paper.specs.Bytes.{ids_of}
use Rattle.paper.specs.Sound.{zero_header, good_header}
use Rattle.sound.specs.declared.Broken.{Broken}

-- a map with room for every slot, and none marked
pub record Unmarked (slots : ℕ) (seen : List Bool) : Type 0 where
  pub wide : slots ≤ length seen
  pub none : seen ≡ replicate (length seen) false

abbrev pub id_within : ℕ → PageId → Bool
id_within slots p = leb p.0 slots

abbrev pub ids_in_use : List Header → List ℕ
ids_in_use hs = map (λ (h : Header). h.id.0) (those (λ (h : Header). h.used) hs)

-- page id p is marked at index p - 1, and 0 never
unfoldable pub is_marked : List Bool → ℕ → Bool
is_marked seen zero = false
is_marked seen (suc k) = get_or seen k false

unfoldable pub mark : List Bool → ℕ → List Bool
mark seen zero = seen
mark seen (suc k) = set seen k true

unfoldable pub marked : List Bool → List ℕ → List Bool
marked seen [] = seen
marked seen (n ∷ ns) = marked (mark seen n) ns

-- S4 for one page id of a header, by the header's expiry
unfoldable pub held_to : Bank → PS → ℕ → PageId → Bool
held_to b ps e p = is_zero p.0 || ((slot_at b ps p).used && leb e (slot_at b ps p).expires)

-- each page id passes the test and is not yet marked, then it is
unfoldable pub once : (PageId → Bool) → List Bool → List PageId → Bool
once f seen [] = true
once f seen (p ∷ ps) = (f p && not (is_marked seen p.0)) && once f (mark seen p.0) ps

-- a header alone, and against the slots and the map: S2 without the others' ids, S4, S5
unfoldable pub passes : Bank → Control → PS → List Bool → Header → Bool
passes b c ps seen h =
    cond h.used
    (good_header b c h && cond (ltb c.clock h.expires) (once (held_to b ps h.expires) seen h.pages) true)
    (zero_header h)

-- the map after a header: a live one marks its pages
unfoldable pub seen_after : Bank → Control → List Bool → Header → List Bool
seen_after b c seen h = cond (live c.clock h && good_header b c h) (marked seen (ids_of h.pages)) seen

unfoldable pub all_pass : Bank → Control → PS → List Bool → List Header → Bool
all_pass b c ps seen [] = true
all_pass b c ps seen (h ∷ hs) = passes b c ps seen h && all_pass b c ps (seen_after b c seen h) hs

-- what is told of a header: its id where it is in use
unfoldable pub told : Bool → Header → Result (Option ℕ) Broken
told false h = Err (record {})
told true h = Ok (cond h.used (Some h.id.0) None)
