-- The requests on the bytes of the two tables: what is answered, and every byte that is left.
use Rattle.std.specs.Prelude.{ℕ, Bool, ◌&&◌, cond, List, [], length, replicate, eqb, Result, Ok, Err, Some, None}
use Rattle.paper.specs.declared.Bank.{Bank}
use Rattle.paper.specs.declared.FileId.{FileId}
use Rattle.paper.specs.declared.PageId.{PageId}
use Rattle.paper.specs.declared.PageNum.{PageNum}
use Rattle.paper.specs.declared.Refusal.{Refusal}
use Rattle.paper.specs.declared.Refusal.TheVariants.{BadCall}
use Rattle.paper.specs.Ids.{null_page_id}
use Rattle.paper.specs.Lists.{is_zero, lowest}
use Rattle.paper.specs.Tables.{HS, fresh, header_at, get_page_id}
use Rattle.paper.specs.Stores.{has_id}
use Rattle.paper.specs.Answers.{Request, Read, lent_page, Report, nothing, succeeded, refused}
use Rattle.paper.specs.Requests.{Reply, carry_out, checked}
use Rattle.paper.specs.Bytes.{headers_length, pages_length, hs_from, tables_from, header_table, page_table}

pub record Left : Type 0 where
  pub report : Report
  pub page : List ℕ
  pub headers : List ℕ
  pub pages : List ℕ

-- Buffers have exact lengths.
abbrev pub tables_fit : Bank → List ℕ → List ℕ → Bool
tables_fit b headers pages = eqb (length headers) headers_length && eqb (length pages) (pages_length b)

abbrev pub written : Reply → Left
written r = record { report = r.report; page = r.page; headers = header_table r.tables.hs; pages = page_table r.tables.ps }

-- refused before all else: the very same bytes
abbrev pub untouched : Refusal → List ℕ → List ℕ → List ℕ → Left
untouched a page headers pages = record { report = refused a; page = page; headers = headers; pages = pages }

-- the refusal before all else, if any
unfoldable pub refusal : Bank → ℕ → List ℕ → Request → List ℕ → List ℕ → Result (Unit {0}) Refusal
refusal b now os r headers pages = cond (tables_fit b headers pages) (checked b now os r (tables_from b headers pages)) (Err BadCall)

unfoldable pub serve_bytes : Bank → ℕ → List ℕ → Request → List ℕ → List ℕ → Left
serve_bytes b now os r headers pages =
    elim (refusal b now os r headers pages) [
      | Ok u ↦ written (carry_out b now os r (tables_from b headers pages))
      | Err a ↦ untouched a (lent_page r) headers pages
    ]

-- Format takes both tables with any contents and writes next id 1, clock 0 and zeros elsewhere; it gives Success or BadCall.
unfoldable pub format : Bank → List ℕ → List ℕ → Left
format b headers pages =
    cond (tables_fit b headers pages)
    (record { report = succeeded nothing; page = []; headers = header_table (fresh b).hs; pages = page_table (fresh b).ps })
    (untouched BadCall [] headers pages)

-- Look answers the page where Read with an all-zero list would be Success; otherwise the caller's blank, whole.
unfoldable pub look : Bank → ℕ → FileId → PageNum → List ℕ → List ℕ → List ℕ → List ℕ
look b now id number blank headers pages =
    let r = serve_bytes b now (replicate 18 0) (Read id number (replicate b.size 0)) headers pages in
    cond (is_zero r.report.number) r.page blank

-- the page id that the live header with this id has at the number, NullPageId where there is none
unfoldable pub named_page : ℕ → FileId → PageNum → HS → PageId
named_page now id number s = elim (lowest (has_id now id) s.headers) [ Some n ↦ get_page_id (header_at s n) number | None ↦ null_page_id ]

-- Where the page lies that Look answers: its slot; NullPageId for the blank.
unfoldable pub look_slot : Bank → ℕ → FileId → PageNum → List ℕ → List ℕ → PageId
look_slot b now id number headers pages =
    elim (refusal b now (replicate 18 0) (Read id number (replicate b.size 0)) headers pages) [
      | Ok u ↦ named_page now id number (hs_from headers)
      | Err a ↦ null_page_id
    ]
