-- What the requests' contracts speak of: sound tables, an opened header, and what a caller sees of a reply.
use Rattle.std.specs.Prelude.{ℕ, ◌≡◌, true, cond, List, length}
use Rattle.paper.specs.declared.Bank.{Bank}
use Rattle.paper.specs.Lists.{is_zero}
use Rattle.paper.specs.Tables.{Tables, header_at}
use Rattle.paper.specs.Sound.{sound}
use Rattle.paper.specs.Answers.{Report}
use Rattle.paper.specs.Requests.{Reply}
use Rattle.paper.specs.Bytes.{headers_length, hs_from, tables_from}
use Rattle.stores.specs.declared.slot.HeaderSlot.{HeaderSlot}
use Rattle.stores.specs.Geometry.{Geometry}
use Rattle.rows.specs.Standing.{named}

pub record SoundTables (b : Bank) (headers pages : List ℕ) : Type 0 where
  pub geometry : Geometry b pages
  pub whole : length headers ≡ headers_length
  pub sound : sound b (tables_from b headers pages) ≡ true

-- What a caller sees of a reply: all but whether the header step went through.
pub record Shown : Type 0 where
  pub report : Report
  pub page : List ℕ
  pub tables : Tables

abbrev pub shown : Reply → Shown
shown r = record { report = r.report; page = r.page; tables = r.tables }

-- the report, the lent page and the tables that a request leaves
abbrev pub shows : Report → List ℕ → Tables → Shown
shows r page t = record { report = r; page = page; tables = t }

-- what is left of a request with its header in slot s finds: tables of the right lengths, and page ids that name slots
pub record Opened (b : Bank) (s : HeaderSlot) (headers pages outcomes : List ℕ) : Type 0 where
  pub geometry : Geometry b pages
  pub whole : length headers ≡ headers_length
  pub named : named b.slots (header_at (hs_from headers) s.number).pages ≡ true
  pub steps : length outcomes ≡ 18

-- the page of a reply where it is Success, otherwise the blank
abbrev pub looked : Reply → List ℕ → List ℕ
looked r blank = cond (is_zero r.report.number) r.page blank
