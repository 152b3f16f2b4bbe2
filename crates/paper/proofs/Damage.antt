-- Each rule broken alone, and tables at the rules' very edges that are sound, computed on a bank of 4 slots of 2 bytes.
use Prim.Native.Nat.{ℕ}
use mathlib.Core.Path.{◌≡◌, refl}
use mathlib.Core.Bool.{Bool, true, false}
use mathlib.Core.List.{List, [], ◌∷◌, ◌++◌, map}
use lib.ListN.{length, take, replicate}
use Rattle.paper.specs.declared.Bank.{Bank}
use Rattle.paper.specs.declared.Header.{Header}
use Rattle.paper.specs.Ids.{file_id, page_id}
use Rattle.paper.specs.Tables.{Slot, Tables, no_header, no_slot, no_pages}
use Rattle.paper.specs.Sound.{s1, s2, s3, s4, s5, sound}
use Rattle.paper.proofs.Computing.{computing}

abbrev few : Bank
few = record { slots = 4; size = 2 }

-- in use; the page ids from number 0 on
abbrev header : ℕ → ℕ → ℕ → ℕ → List ℕ → Header
header id created updated expires ps = record {
  used = true;
  id = file_id id;
  owner = 7;
  created = created;
  updated = updated;
  expires = expires;
  pages = take 16 (map page_id ps ++ no_pages);
}

abbrev unused : ℕ → ℕ → ℕ → ℕ → ℕ → List ℕ → Header
unused id owner created updated expires ps = record {
  used = false;
  id = file_id id;
  owner = owner;
  created = created;
  updated = updated;
  expires = expires;
  pages = take 16 (map page_id ps ++ no_pages);
}

abbrev slot : Bool → ℕ → ℕ → ℕ → Slot
slot used spare expires byte = record { used = used; spare = spare; expires = expires; contents = 0 ∷ byte ∷ [] }

-- at clock 50: next id, spare bits, headers, slots
abbrev tables : ℕ → ℕ → List Header → List Slot → Tables
tables next spare hs ss = record { hs = record { control = record { next = next; clock = 50 }; spare = spare; headers = hs }; ps = ss }

-- Slot 1 lives as long as the live header, slot 2 outlives it, slot 3 is in use and expired, slot 4 is not in use.
abbrev slots : List Slot
slots = slot true 0 100 1 ∷ slot true 0 200 2 ∷ slot true 0 50 3 ∷ no_slot few ∷ []

abbrev lives : List ℕ → Header
lives ps = header 1 10 20 100 ps

-- Page ids in an expired header are held only to S2.
abbrev expired : Header
expired = header 2 10 20 50 (1 ∷ 1 ∷ 4 ∷ [])

abbrev among : Header → List Header
among h = h ∷ expired ∷ no_header ∷ []

abbrev sounds : List Tables
sounds =
    tables 3 0 (among (lives (1 ∷ 0 ∷ 2 ∷ []))) slots
    ∷ tables 2147483648 0 (among (lives (1 ∷ []))) slots
    ∷ tables 1 0 (no_header ∷ []) slots
    ∷ tables 3 0 (among (header 1 50 50 51 (2 ∷ []))) slots
    ∷ tables 3 0 (among (header 1 20 20 20 (3 ∷ 3 ∷ []))) slots
    ∷ []

pub these_sound : map (sound few) sounds ≡ replicate (length sounds) true
unfolding computing
these_sound = refl

abbrev damaged : List Tables
damaged =
    tables 0 0 (no_header ∷ []) slots
    ∷ tables 2147483649 0 (among (lives (1 ∷ []))) slots
    ∷ tables 3 1 (among (lives (1 ∷ []))) slots
    ∷ tables 3 0 (unused 1 0 0 0 0 [] ∷ expired ∷ []) slots
    ∷ tables 3 0 (unused 0 1 0 0 0 [] ∷ expired ∷ []) slots
    ∷ tables 3 0 (unused 0 0 1 0 0 [] ∷ expired ∷ []) slots
    ∷ tables 3 0 (unused 0 0 0 1 0 [] ∷ expired ∷ []) slots
    ∷ tables 3 0 (unused 0 0 0 0 1 [] ∷ expired ∷ []) slots
    ∷ tables 3 0 (unused 0 0 0 0 0 (1 ∷ []) ∷ expired ∷ []) slots
    ∷ tables 3 0 (header 0 10 20 100 [] ∷ expired ∷ []) slots
    ∷ tables 2 0 (among (lives (1 ∷ []))) slots
    ∷ tables 3 0 (expired ∷ expired ∷ []) slots
    ∷ tables 3 0 (among (header 1 21 20 100 [])) slots
    ∷ tables 3 0 (among (header 1 10 51 100 [])) slots
    ∷ tables 3 0 (among (header 1 10 20 19 [])) slots
    ∷ tables 3 0 (among (header 1 10 20 50 (5 ∷ []))) slots
    ∷ tables 3 0 (among (lives [])) (slot false 1 0 0 ∷ [])
    ∷ tables 3 0 (among (lives [])) (slot false 0 1 0 ∷ [])
    ∷ tables 3 0 (among (lives [])) (slot false 0 0 1 ∷ [])
    ∷ tables 3 0 (among (lives [])) (slot true 1 100 1 ∷ [])
    ∷ tables 3 0 (among (lives (0 ∷ 4 ∷ []))) slots
    ∷ tables 3 0 (among (header 1 10 20 101 (1 ∷ []))) slots
    ∷ tables 3 0 (among (lives (1 ∷ 2 ∷ 1 ∷ []))) slots
    ∷ tables 4 0 (lives (1 ∷ []) ∷ header 3 10 20 100 (2 ∷ 1 ∷ []) ∷ []) slots
    ∷ []

abbrev rules : Tables → List Bool
rules t = s1 t.hs ∷ s2 few t.hs ∷ s3 t.ps ∷ s4 few t ∷ s5 t.hs ∷ []

-- only the first rule fails, only the second ..
abbrev one : List Bool
one = false ∷ true ∷ true ∷ true ∷ true ∷ []

abbrev two : List Bool
two = true ∷ false ∷ true ∷ true ∷ true ∷ []

abbrev three : List Bool
three = true ∷ true ∷ false ∷ true ∷ true ∷ []

abbrev four : List Bool
four = true ∷ true ∷ true ∷ false ∷ true ∷ []

abbrev five : List Bool
five = true ∷ true ∷ true ∷ true ∷ false ∷ []

pub these_damaged : map rules damaged ≡ replicate 3 one ++ (replicate 13 two ++ (replicate 4 three ++ (replicate 2 four ++ replicate 2 five)))
unfolding computing
these_damaged = refl

-- a slot not in use holds no page, whatever expiry stands in it: S3 and S4
pub slot_not_in_use : rules (tables 3 0 (among (lives (1 ∷ []))) (slot false 0 200 0 ∷ [])) ≡ true ∷ true ∷ false ∷ false ∷ true ∷ []
unfolding computing
slot_not_in_use = refl
