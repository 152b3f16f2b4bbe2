-- A run of requests as their caller may have seen it, and the plain machine beside it.
use Rattle.std.specs.Prelude.{ℕ, ◌<◌, ◌^◌, ◌≡◌, true, List, [], ◌∷◌, length}
use Rattle.bits.specs.Field.{Bytes}
use Rattle.paper.specs.declared.Bank.{Bank}
use Rattle.paper.specs.Tables.{Tables}
use Rattle.paper.specs.Sound.{sound}
use Rattle.paper.specs.Answers.{Request, Create, Write, Read, Info, Destroy, SetExpiry, Scavenge, Report}
use Rattle.paper.specs.Requests.{serve}
use Rattle.paper.specs.Bytes.{headers_length, pages_length, tables_from}
use Rattle.paper.specs.Service.{serve_bytes, format}
use Rattle.paper.specs.Plain.{Plain, fresh_machine, Told, plain}
use Rattle.paper.specs.View.{view, beside}
use Rattle.service.specs.Border.{left}

-- Format, or a request at a time with its outcome list
pub data Asked : Type 0 where
  formats : Asked
  asks : ℕ → List ℕ → Request → Asked

-- what a caller asked, and what was then reported and held by the lent page and both tables
pub record Seen : Type 0 where
  pub asked : Asked
  pub report : Report
  pub page : List ℕ
  pub headers : List ℕ
  pub pages : List ℕ

-- The numbers are those of the service's parameters: a client of 16 bits, times of 32, a page of bytes.
abbrev pub Given : Request → Type 0
Given (Create client number page expires) = (client < 2 ^ 16) × Bytes page × (expires < 2 ^ 32)
Given (Write client id number page) = (client < 2 ^ 16) × Bytes page
Given (Read id number lent) = Unit {0}
Given (Info id) = Unit {0}
Given (Destroy client id) = Unit {0}
Given (SetExpiry client id expires) = expires < 2 ^ 32
Given Scavenge = Unit {0}

-- the contract of the border that was called, on the bytes before and after
abbrev pub Allowed : Bank → List ℕ → List ℕ → Seen → Asked → Type 0
Allowed b headers pages s formats = left s.report [] s.headers s.pages ≡ format b headers pages
Allowed b headers pages s (asks now os q) =
    (now < 2 ^ 32) × Given q × (left s.report s.page s.headers s.pages ≡ serve_bytes b now os q headers pages)

-- two tables of the bank's lengths, of bytes
pub record Buffers (b : Bank) (headers pages : List ℕ) : Type 0 where
  pub header_table_bytes : Bytes headers
  pub header_table_len : length headers ≡ headers_length
  pub page_table_bytes : Bytes pages
  pub page_table_len : length pages ≡ pages_length b

-- Each answer with the bytes that it left is one that its border's contract allows; a lent buffer stays bytes and keeps its length.
pub data History (b : Bank) : List ℕ → List ℕ → List Seen → Type 0 where
  nothing : {headers pages : List ℕ} → History b headers pages []
  then : {headers pages : List ℕ} {s : Seen} {ss : List Seen} → Allowed b headers pages s s.asked → Buffers b s.headers s.pages
      → History b s.headers s.pages ss → History b headers pages (s ∷ ss)

-- the tables that a run leaves
abbrev pub last_tables : Bank → List ℕ → List ℕ → List Seen → Tables
last_tables b headers pages [] = tables_from b headers pages
last_tables b headers pages (s ∷ ss) = last_tables b s.headers s.pages ss

-- the plain machine after one call: fresh after Format; otherwise beside the service's reply
abbrev pub machine_then : Bank → List ℕ → List ℕ → Asked → Plain → Plain
machine_then b headers pages formats m = fresh_machine
machine_then b headers pages (asks now os q) m = beside now q (serve b now os q (tables_from b headers pages)) m

abbrev pub machine_after : Bank → List ℕ → List ℕ → List Seen → Plain → Plain
machine_after b headers pages [] m = m
machine_after b headers pages (s ∷ ss) m = machine_after b s.headers s.pages ss (machine_then b headers pages s.asked m)

-- a Success tells what the plain machine tells: its number, id, Info's fields and the lent page
pub record Tells (s : Seen) (m : Told) : Type 0 where
  pub number : m.report.number ≡ 0
  pub id : m.report.id ≡ s.report.id
  pub facts : m.report.facts ≡ s.report.facts
  pub page : m.page ≡ s.page

abbrev pub Agreed : Seen → Asked → Plain → Type 0
Agreed s formats m = Unit {0}
Agreed s (asks now os q) m = s.report.number ≡ 0 → Tells s (plain now q m)

abbrev pub AllAgreed : Bank → List ℕ → List ℕ → List Seen → Plain → Type 0
AllAgreed b headers pages [] m = Unit {0}
AllAgreed b headers pages (s ∷ ss) m = Agreed s s.asked m × AllAgreed b s.headers s.pages ss (machine_then b headers pages s.asked m)

-- what demand 3 says of a run from these bytes
pub record NothingEverLost (b : Bank) (headers pages : List ℕ) (ss : List Seen) : Type 0 where
  pub sound : sound b (last_tables b headers pages ss) ≡ true
  pub shown : view b (last_tables b headers pages ss) ≡ machine_after b headers pages ss (view b (tables_from b headers pages))
  pub agreed : AllAgreed b headers pages ss (view b (tables_from b headers pages))
