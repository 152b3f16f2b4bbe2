-- What the sessions leave open, computed on a bank of 3 slots of 2 bytes: each step refused or cut, expired slots serving again, the last ids.
use Prim.Native.Nat.{ℕ}
use mathlib.Core.Path.{◌≡◌, refl}
use mathlib.Core.Bool.{false}
use mathlib.Core.List.{List, [], ◌∷◌, map, zip_with}
use lib.ListN.{replicate}
use Rattle.paper.specs.declared.Bank.{Bank}
use Rattle.paper.specs.Ids.{file_id, page_num}
use Rattle.paper.specs.Tables.{Tables, no_header, no_slot, fresh}
use Rattle.paper.specs.Answers.{Request, Create, Write, Read, Info, Destroy, SetExpiry, Scavenge}
use Rattle.paper.specs.Requests.{Reply}
use Rattle.paper.specs.Sessions.{Call, at, failing, first, page_b, create_a, write_b, read_of, set_expiry_to, run, shows}
use Rattle.paper.proofs.Computing.{computing}

abbrev pub few : Bank
few = record { slots = 3; size = 2 }

abbrev create : Request
create = create_a few 100

abbrev write : Request
write = write_b few 7 1

abbrev read : ℕ → Request
read id = read_of few id 0

abbrev destroy : ℕ → ℕ → Request
destroy client id = Destroy client (file_id id)

abbrev with_outcomes : ℕ → Call
with_outcomes n = record { now = 9; outcomes = replicate n 0; request = Scavenge }

abbrev pub cases : List (List Call)
cases =
    -- lengthening: the pages first, so a refused header step keeps the old life
    (first few ∷ failing 3 1 20 (set_expiry_to 200) ∷ at 99 (read 1) ∷ at 100 (read 1) ∷ [])
    ∷ (first few ∷ failing 3 2 20 (set_expiry_to 200) ∷ at 99 (read 1) ∷ at 100 Scavenge ∷ at 200 Scavenge ∷ [])
    ∷ (first few ∷ at 20 (set_expiry_to 200) ∷ at 199 (read 2) ∷ at 199 (Info (file_id 2)) ∷ at 200 (Info (file_id 2)) ∷ [])
    -- an equal expiry counts as lengthening
    ∷ (first few ∷ failing 2 1 20 (set_expiry_to 100) ∷ failing 3 1 20 (set_expiry_to 100) ∷ at 20 (read 1) ∷ [])
    -- shortening: the header first; into the past is now
    ∷ (first few ∷ failing 3 2 20 (set_expiry_to 50) ∷ at 49 (read 2) ∷ at 50 (read 2) ∷ at 50 Scavenge ∷ at 100 Scavenge ∷ [])
    ∷ (first few ∷ failing 2 1 20 (set_expiry_to 50) ∷ at 99 (read 1) ∷ [])
    ∷ (first few ∷ at 20 (set_expiry_to 5) ∷ at 20 (read 2) ∷ at 20 Scavenge ∷ [])
    -- a Create cut or refused at its header step spends no id and leaves its page
    ∷ (failing 2 2 10 create ∷ failing 2 1 10 create ∷ at 10 create ∷ at 10 create ∷ at 100 create ∷ at 100 (create_a few 300) ∷ [])
    ∷ (failing 1 1 10 create ∷ failing 1 2 10 create ∷ at 10 Scavenge ∷ at 10 create ∷ [])
    -- a Write with no former page has three steps; a Destroy frees every page
    ∷ (first few ∷ failing 4 2 20 (Write 7 (file_id 1) (page_num 1) (page_b few)) ∷ at 20 (read 2) ∷ at 20 (read_of few 2 1) ∷ failing 3 1 20 (destroy 7 2) ∷ at 99 Scavenge ∷ at 100 Scavenge ∷ [])
    ∷ (first few ∷ at 20 (Write 7 (file_id 1) (page_num 1) (page_b few)) ∷ failing 4 2 20 (destroy 7 2) ∷ at 20 (read 2) ∷ at 100 Scavenge ∷ [])
    -- a full page bank
    ∷ (first few ∷ at 10 create ∷ at 10 create ∷ at 20 write ∷ at 20 (read 1) ∷ at 20 (destroy 7 2) ∷ at 20 write ∷ at 20 (read 4) ∷ [])
    -- the outcome is looked at before the step's own conditions; the clock is stored all the same
    ∷ (first few ∷ failing 1 1 30 (read 9) ∷ failing 1 2 30 (read 9) ∷ at 30 (read 9) ∷ at 29 (read 1) ∷ [])
    ∷ (first few ∷ failing 2 1 20 (read 1) ∷ failing 2 2 20 (read 1) ∷ failing 2 1 20 write ∷ failing 2 2 20 write ∷ at 20 (read 1) ∷ [])
    ∷ (first few ∷ at 20 (destroy 8 1) ∷ failing 2 1 20 (destroy 7 1) ∷ failing 2 2 20 (destroy 7 1) ∷ at 20 (read 1) ∷ at 20 (destroy 7 1) ∷ at 20 (read 1) ∷ [])
    ∷ (first few ∷ failing 1 1 100 Scavenge ∷ failing 1 2 100 Scavenge ∷ failing 2 1 100 Scavenge ∷ at 100 Scavenge ∷ [])
    ∷ (first few ∷ at 10 (create_a few 200) ∷ at 100 Scavenge ∷ at 100 (read 2) ∷ [])
    -- only the owner sets the expiry
    ∷ (first few ∷ at 20 (SetExpiry 8 (file_id 1) 200) ∷ at 20 (SetExpiry 8 (file_id 1) 50) ∷ at 99 (read 1) ∷ [])
    -- malformed calls
    ∷ (at 9 (Create 7 (page_num 16) (page_b few) 100) ∷ at 9 (Create 7 (page_num 0) (0 ∷ []) 100) ∷ at 9 (Write 7 (file_id 1) (page_num 16) (page_b few)) ∷ [])
    ∷ (first few ∷ failing 18 3 9 (read 1) ∷ at 9 (Write 7 (file_id 1) (page_num 0) (0 ∷ [])) ∷ at 9 (Read (file_id 1) (page_num 0) (5 ∷ [])) ∷ at 9 (Read (file_id 1) (page_num 0) (5 ∷ 5 ∷ 5 ∷ [])) ∷ with_outcomes 17 ∷ with_outcomes 19 ∷ [])
    ∷ []

abbrev given : List (List (List ℕ))
given =
    ((0 ∷ 1 ∷ []) ∷ (9 ∷ 0 ∷ []) ∷ (0 ∷ 0x41 ∷ []) ∷ (4 ∷ 0 ∷ []) ∷ [])
    ∷ ((0 ∷ 1 ∷ []) ∷ (10 ∷ 0 ∷ []) ∷ (0 ∷ 0x41 ∷ []) ∷ (0 ∷ 1 ∷ 0 ∷ []) ∷ (0 ∷ 0 ∷ 1 ∷ []) ∷ [])
    ∷ ((0 ∷ 1 ∷ []) ∷ (0 ∷ 2 ∷ []) ∷ (0 ∷ 0x41 ∷ []) ∷ (0 ∷ 7 ∷ 10 ∷ 20 ∷ 200 ∷ []) ∷ (4 ∷ 0 ∷ 0 ∷ 0 ∷ 0 ∷ []) ∷ [])
    ∷ ((0 ∷ 1 ∷ []) ∷ (9 ∷ 0 ∷ []) ∷ (9 ∷ 0 ∷ []) ∷ (0 ∷ 0x41 ∷ []) ∷ [])
    ∷ ((0 ∷ 1 ∷ []) ∷ (10 ∷ 0 ∷ []) ∷ (0 ∷ 0x41 ∷ []) ∷ (4 ∷ 0 ∷ []) ∷ (0 ∷ 1 ∷ 0 ∷ []) ∷ (0 ∷ 0 ∷ 1 ∷ []) ∷ [])
    ∷ ((0 ∷ 1 ∷ []) ∷ (9 ∷ 0 ∷ []) ∷ (0 ∷ 0x41 ∷ []) ∷ [])
    ∷ ((0 ∷ 1 ∷ []) ∷ (0 ∷ 2 ∷ []) ∷ (4 ∷ 0 ∷ []) ∷ (0 ∷ 1 ∷ 1 ∷ []) ∷ [])
    ∷ ((10 ∷ 0 ∷ []) ∷ (9 ∷ 0 ∷ []) ∷ (0 ∷ 1 ∷ []) ∷ (7 ∷ 0 ∷ []) ∷ (0 ∷ 2 ∷ []) ∷ (0 ∷ 3 ∷ []) ∷ [])
    ∷ ((9 ∷ 0 ∷ []) ∷ (10 ∷ 0 ∷ []) ∷ (0 ∷ 0 ∷ 0 ∷ []) ∷ (0 ∷ 1 ∷ []) ∷ [])
    ∷ ((0 ∷ 1 ∷ []) ∷ (0 ∷ 2 ∷ []) ∷ (0 ∷ 0x41 ∷ []) ∷ (0 ∷ 0x42 ∷ []) ∷ (0 ∷ []) ∷ (0 ∷ 0 ∷ 0 ∷ []) ∷ (0 ∷ 0 ∷ 1 ∷ []) ∷ [])
    ∷ ((0 ∷ 1 ∷ []) ∷ (0 ∷ 2 ∷ []) ∷ (10 ∷ []) ∷ (4 ∷ 0 ∷ []) ∷ (0 ∷ 0 ∷ 1 ∷ []) ∷ [])
    ∷ ((0 ∷ 1 ∷ []) ∷ (0 ∷ 2 ∷ []) ∷ (0 ∷ 3 ∷ []) ∷ (7 ∷ 0 ∷ []) ∷ (0 ∷ 0x41 ∷ []) ∷ (0 ∷ []) ∷ (0 ∷ 4 ∷ []) ∷ (0 ∷ 0x42 ∷ []) ∷ [])
    ∷ ((0 ∷ 1 ∷ []) ∷ (9 ∷ 0 ∷ []) ∷ (10 ∷ 0 ∷ []) ∷ (4 ∷ 0 ∷ []) ∷ (3 ∷ 0 ∷ []) ∷ [])
    ∷ ((0 ∷ 1 ∷ []) ∷ (9 ∷ 0 ∷ []) ∷ (10 ∷ 0 ∷ []) ∷ (9 ∷ 0 ∷ []) ∷ (10 ∷ 0 ∷ []) ∷ (0 ∷ 0x41 ∷ []) ∷ [])
    ∷ ((0 ∷ 1 ∷ []) ∷ (5 ∷ []) ∷ (9 ∷ []) ∷ (10 ∷ []) ∷ (0 ∷ 0x41 ∷ []) ∷ (0 ∷ []) ∷ (4 ∷ 0 ∷ []) ∷ [])
    ∷ ((0 ∷ 1 ∷ []) ∷ (9 ∷ 0 ∷ 0 ∷ []) ∷ (10 ∷ 0 ∷ 0 ∷ []) ∷ (9 ∷ 0 ∷ 0 ∷ []) ∷ (0 ∷ 0 ∷ 1 ∷ []) ∷ [])
    ∷ ((0 ∷ 1 ∷ []) ∷ (0 ∷ 2 ∷ []) ∷ (0 ∷ 1 ∷ 1 ∷ []) ∷ (0 ∷ 0x41 ∷ []) ∷ [])
    ∷ ((0 ∷ 1 ∷ []) ∷ (5 ∷ 0 ∷ []) ∷ (5 ∷ 0 ∷ []) ∷ (0 ∷ 0x41 ∷ []) ∷ [])
    ∷ ((1 ∷ 0 ∷ []) ∷ (1 ∷ 0 ∷ []) ∷ (1 ∷ 0 ∷ []) ∷ [])
    ∷ ((0 ∷ 1 ∷ []) ∷ (1 ∷ 0 ∷ []) ∷ (1 ∷ 0 ∷ []) ∷ (1 ∷ 5 ∷ []) ∷ (1 ∷ 5 ∷ []) ∷ (1 ∷ 0 ∷ 0 ∷ []) ∷ (1 ∷ 0 ∷ 0 ∷ []) ∷ [])
    ∷ []

abbrev rows : List Call → List Reply → List (List ℕ)
rows cs rs = zip_with (λ (c : Call) (r : Reply). shows c r.report r.page) cs rs

pub cases_show : map (λ cs. rows cs (run few cs (fresh few))) cases ≡ given
unfolding computing
cases_show = refl

-- with so many header slots and next id at n
abbrev from : ℕ → ℕ → Tables
from headers n = record {
  hs = record { control = record { next = n; clock = 0 }; spare = 0; headers = replicate headers no_header };
  ps = replicate 3 (no_slot few);
}

-- the last id is issued, and then none; with no header slot either it is NoSpace
abbrev end : List Call
end = first few ∷ at 10 create ∷ at 20 (Write 7 (file_id 2147483647) (page_num 0) (page_b few)) ∷ at 20 (read 2147483647) ∷ []

pub last_id : rows end (run few end (from 2 2147483647)) ≡ (0 ∷ 2147483647 ∷ []) ∷ (8 ∷ 0 ∷ []) ∷ (8 ∷ 0 ∷ []) ∷ (0 ∷ 0x41 ∷ []) ∷ []
unfolding computing
last_id = refl

pub no_space_first : rows end (run few end (from 1 2147483647)) ≡ (0 ∷ 2147483647 ∷ []) ∷ (7 ∷ 0 ∷ []) ∷ (8 ∷ 0 ∷ []) ∷ (0 ∷ 0x41 ∷ []) ∷ []
unfolding computing
no_space_first = refl

-- an expired header serves again
abbrev again : List Call
again = first few ∷ at 99 create ∷ at 100 (create_a few 300) ∷ at 100 (read 2) ∷ []

pub expired_serves : rows again (run few again (from 1 1)) ≡ (0 ∷ 1 ∷ []) ∷ (7 ∷ 0 ∷ []) ∷ (0 ∷ 2 ∷ []) ∷ (0 ∷ 0x41 ∷ []) ∷ []
unfolding computing
expired_serves = refl

-- 1, 2 and 3 in that order: spare bits set, at a time below the clock
abbrev damaged : Tables
damaged = record { hs = record { control = record { next = 1; clock = 10 }; spare = 1; headers = [] }; ps = [] }

abbrev order : List Call
order = failing 18 3 9 (read 1) ∷ at 9 (read_of few 1 16) ∷ at 9 (read 1) ∷ []

pub refusals_in_order : rows order (run few order damaged) ≡ (1 ∷ 0 ∷ []) ∷ (1 ∷ 0 ∷ []) ∷ (2 ∷ 0 ∷ []) ∷ []
unfolding computing
refusals_in_order = refl

-- and none of them past a header step
pub none_past : map (λ (r : Reply). r.past) (run few order damaged) ≡ replicate 3 false
unfolding computing
none_past = refl
