-- Requests on two small tables, three page slots of two bytes: for each, whether the tables stay sound, show what the plain machine then holds, and a Success agrees.
use Prim.Native.Nat.{ℕ}
use mathlib.Core.Bool.{Bool, true, ◌&&◌, cond}
use mathlib.Core.List.{List, [], ◌∷◌}
use lib.Dec.{leb}
use lib.ListN.{set}
use Rattle.paper.specs.declared.Bank.{Bank}
use Rattle.paper.specs.declared.Header.{Header}
use Rattle.paper.specs.Ids.{file_id, page_id, page_num}
use Rattle.paper.specs.Tables.{Slot, Tables, no_header, no_slot, no_pages, clock_of}
use Rattle.paper.specs.Sound.{sound}
use Rattle.paper.specs.Answers.{Request, Create, Write, Read, Info, Destroy, SetExpiry, Scavenge}
use Rattle.paper.specs.Requests.{carry_out, well_formed}
use Rattle.paper.specs.Plain.{plain}
use Rattle.paper.specs.View.{view, beside}
use Rattle.paper.proofs.Compared.{eqs, seen, gave_that}

abbrev pub few : Bank
few = record { slots = 3; size = 2 }

abbrev kept : ℕ → List ℕ → Request → Tables → Bool
kept now os q t =
    let r = carry_out few now os q t in
    sound few r.tables && eqs (seen (view few r.tables)) (seen (beside now q r (view few t))) && gave_that r.report.number r (plain now q (view few t))

-- tables that are not ready for the request say nothing
abbrev trial : ℕ → List ℕ → Request → Tables → Bool
trial now os q t = cond (sound few t && leb (clock_of t) now && well_formed few q) (kept now os q t) true

-- two live files, each with a page; the second's page is slot 1
abbrev first : Header
first = record { used = true; id = file_id 1; owner = 7; created = 10; updated = 10; expires = 100; pages = set no_pages 0 (page_id 2) }

abbrev second : ℕ → Header
second slot = record { used = true; id = file_id 2; owner = 8; created = 10; updated = 10; expires = 50; pages = set no_pages 1 (page_id slot) }

abbrev full : List ℕ → ℕ → Slot
full page e = record { used = true; spare = 0; expires = e; contents = page }

abbrev with : Header → Tables
with h = record {
  hs = record { control = record { next = 3; clock = 10 }; spare = 0; headers = first ∷ h ∷ no_header ∷ [] };
  ps = full (1 ∷ 2 ∷ []) 50 ∷ full (3 ∷ 4 ∷ []) 100 ∷ no_slot few ∷ [];
}

abbrev pub two : Tables
two = with (second 1)

abbrev write : ℕ → Request
write client = Write client (file_id 1) (page_num 0) (5 ∷ 6 ∷ [])

abbrev create : Request
create = Create 9 (page_num 0) (5 ∷ 6 ∷ []) 100

-- the last but one on tables whose two files name one page, which are not sound
abbrev pub trials : List Bool
trials =
    trial 20 (0 ∷ 0 ∷ 0 ∷ 2 ∷ []) (write 7) two
    ∷ trial 20 (0 ∷ 0 ∷ 0 ∷ 1 ∷ []) (write 7) two
    ∷ trial 20 [] (write 7) two
    ∷ trial 20 [] (write 8) two
    ∷ trial 20 (0 ∷ 0 ∷ 2 ∷ []) (SetExpiry 7 (file_id 1) 200) two
    ∷ trial 20 (0 ∷ 2 ∷ []) create two
    ∷ trial 20 [] create two
    ∷ trial 20 (2 ∷ []) create two
    ∷ trial 20 [] Scavenge two
    ∷ trial 20 [] (Read (file_id 1) (page_num 0) (0 ∷ 0 ∷ [])) two
    ∷ trial 20 [] (Destroy 7 (file_id 1)) two
    ∷ trial 60 [] (Info (file_id 1)) two
    ∷ trial 20 [] (Destroy 7 (file_id 1)) (with (second 2))
    ∷ trial 20 (0 ∷ 0 ∷ 2 ∷ []) (SetExpiry 7 (file_id 1) 30) two
    ∷ []
