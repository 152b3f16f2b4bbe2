-- The bytes of both tables after a request, on a bank of 2 slots of 4 bytes: session 5 decoded and encoded at each request, Look,
-- and lengths that are wrong. (All twelve sessions through bytes take longer: crate `worked`.)
use Prim.Native.Nat.{ℕ}
use mathlib.Core.Path.{◌≡◌, refl}
use mathlib.Core.List.{List, [], ◌∷◌, ◌++◌, zip_with}
use lib.ListN.{set, take, replicate}
use Rattle.paper.specs.Ids.{file_id, page_num}
use Rattle.paper.specs.declared.Bank.{Bank}
use Rattle.paper.specs.declared.Refusal.{Refusal}
use Rattle.paper.specs.declared.Refusal.TheVariants.{BadCall, Damaged, ClockBack}
use Rattle.paper.specs.Answers.{refused}
use Rattle.paper.specs.Service.{Left, serve_bytes, format, look, look_slot}
use Rattle.paper.specs.Sessions.{Call, at, failing, first, run_bytes, formatted, shows, page_a, create_a, write_b, read_of}
use Rattle.paper.proofs.Computing.{computing}

abbrev tiny : Bank
tiny = record { slots = 2; size = 4 }

abbrev rows : List Call → List Left → List (List ℕ)
rows cs ls = zip_with (λ (c : Call) (l : Left). shows c l.report l.page) cs ls

-- session 5
abbrev five : List Call
five = first tiny ∷ failing 3 1 20 (write_b tiny 7 1) ∷ at 20 (read_of tiny 1 0) ∷ at 20 (read_of tiny 2 0) ∷ []

pub five_shows : rows five (run_bytes tiny five (formatted tiny)) ≡ (0 ∷ 1 ∷ []) ∷ (9 ∷ 0 ∷ []) ∷ (0 ∷ 0x41 ∷ []) ∷ (4 ∷ 0 ∷ []) ∷ []
unfolding computing
five_shows = refl

-- after the first Create
abbrev made : Left
made = serve_bytes tiny 10 (replicate 18 0) (create_a tiny 100) (formatted tiny).headers (formatted tiny).pages

-- The control record with next id 2 and clock 10, the first header record, and the first slot in use till 100.
pub made_bytes : (take 76 made.headers
    ≡ 0 ∷ 0 ∷ 0 ∷ 2 ∷ 0 ∷ 0 ∷ 0 ∷ 10 ∷ replicate 28 0 ++ (0x80 ∷ 0 ∷ 0 ∷ 1 ∷ 0 ∷ 7 ∷ 0 ∷ 0 ∷ 0 ∷ 10 ∷ 0 ∷ 0 ∷ 0 ∷ 10 ∷ 0 ∷ 0 ∷ 0 ∷ 100 ∷ 0 ∷ 0x80 ∷ replicate 20 0))
    × (made.pages ≡ 0x80 ∷ 0 ∷ 0 ∷ 0 ∷ 0 ∷ 0 ∷ 0 ∷ 100 ∷ 0x41 ∷ 0x41 ∷ 0x41 ∷ 0x41 ∷ replicate 12 0)
unfolding computing
made_bytes = (refl, refl)

-- Look: the page till 99; the blank at its expiry, at another number, id or length, below the clock, in damage
abbrev asked : {A : Type 0} → (ℕ → ℕ → ℕ → List ℕ → List ℕ → A) → List ℕ → List ℕ → List A
asked f headers pages =
    f 99 1 0 headers pages
    ∷ f 100 1 0 headers pages
    ∷ f 99 1 1 headers pages
    ∷ f 99 1 16 headers pages
    ∷ f 99 2 0 headers pages
    ∷ f 9 1 0 headers pages
    ∷ f 99 1 0 headers (0 ∷ pages)
    ∷ f 99 1 0 (set headers 35 1) pages
    ∷ []

abbrev looked : ℕ → ℕ → ℕ → List ℕ → List ℕ → List ℕ
looked now id number headers pages = look tiny now (file_id id) (page_num number) (1 ∷ 2 ∷ []) headers pages

pub looks : asked looked made.headers made.pages ≡ page_a tiny ∷ replicate 7 (1 ∷ 2 ∷ [])
unfolding computing
looks = refl

-- the same by where the page lies; after a Write it lies in slot 2, of the header in slot 1
abbrev lying : ℕ → ℕ → ℕ → List ℕ → List ℕ → ℕ
lying now id number headers pages = (look_slot tiny now (file_id id) (page_num number) headers pages).0

abbrev rewritten : Left
rewritten = serve_bytes tiny 20 (replicate 18 0) (write_b tiny 7 1) made.headers made.pages

pub lies : (asked lying made.headers made.pages ≡ 1 ∷ replicate 7 0) × (lying 20 2 0 rewritten.headers rewritten.pages ≡ 2)
unfolding computing
lies = (refl, refl)

-- refused before all else, the very same bytes: at wrong lengths, ..
abbrev same : Refusal → List ℕ → List ℕ → List ℕ → Left
same a page headers pages = record { report = refused a; page = page; headers = headers; pages = pages }

abbrev asking : ℕ → ℕ → List ℕ → List ℕ → Left
asking now number headers pages = serve_bytes tiny now (replicate 18 0) (read_of tiny 1 number) headers pages

pub wrong_lengths : format tiny (1 ∷ []) made.pages
    ∷ asking 10 0 made.headers (2 ∷ [])
    ∷ asking 10 0 (made.headers ++ 0 ∷ []) made.pages
    ∷ asking 10 0 made.headers (made.pages ++ 0 ∷ [])
    ∷ []
    ≡ same BadCall [] (1 ∷ []) made.pages
    ∷ same BadCall (replicate 4 0) made.headers (2 ∷ [])
    ∷ same BadCall (replicate 4 0) (made.headers ++ 0 ∷ []) made.pages
    ∷ same BadCall (replicate 4 0) made.headers (made.pages ++ 0 ∷ [])
    ∷ []
unfolding computing
wrong_lengths = refl

-- .. by page number 16, in damage, below the clock
abbrev damaged : List ℕ
damaged = set made.headers 35 1

pub nothing_written : asking 20 16 made.headers made.pages ∷ asking 20 0 damaged made.pages ∷ asking 9 0 made.headers made.pages ∷ []
    ≡ same BadCall (replicate 4 0) made.headers made.pages
    ∷ same Damaged (replicate 4 0) damaged made.pages
    ∷ same ClockBack (replicate 4 0) made.headers made.pages
    ∷ []
unfolding computing
nothing_written = refl
