-- What the tables show of the plain machine, and what the machine does beside the service: demand 3 equates the two.
use Rattle.std.specs.Prelude.{ℕ, Bool, ◌&&◌, ◌||◌, cond, List, eqb, leb, Option, Some, None}
use Rattle.paper.specs.declared.Bank.{Bank}
use Rattle.paper.specs.declared.PageId.{PageId}
use Rattle.paper.specs.declared.Header.{Header}
use Rattle.paper.specs.Lists.{lowest, is_zero}
use Rattle.paper.specs.Tables.{PS, Tables, clock_of, header_at, slot_at, get_page_id}
use Rattle.paper.specs.Stores.{has_id}
use Rattle.paper.specs.Answers.{Request}
use Rattle.paper.specs.Requests.{Reply, facts_of}
use Rattle.paper.specs.Plain.{File, Plain, passed, plain}

abbrev pub page_shown : Bank → PS → PageId → Option (List ℕ)
page_shown b ps p = cond (is_zero p.0) None (Some (slot_at b ps p).contents)

abbrev pub file_shown : Bank → PS → Header → File
file_shown b ps h = record { facts = facts_of h; pages = λ n. page_shown b ps (get_page_id h n) }

abbrev pub file_found : Bank → Tables → Option ℕ → Option File
file_found b t (Some n) = Some (file_shown b t.ps (header_at t.hs n))
file_found b t None = None

-- clock, next id, and each live header with its pages' contents
unfoldable pub view : Bank → Tables → Plain
view b t = record {
  clock = clock_of t;
  next = t.hs.control.next;
  files = λ x. file_found b t (lowest (has_id (clock_of t) x) t.hs.headers);
}

-- it carries out what was answered Success and what was cut after its header step
unfoldable pub carried : Reply → Bool
carried r = is_zero r.report.number || (eqb r.report.number 10 && r.past)

-- after 1, 2 or 3 nothing; otherwise the time is taken
unfoldable pub beside : ℕ → Request → Reply → Plain → Plain
beside now q r m =
    cond (leb 1 r.report.number && leb r.report.number 3)
    m
    (cond (carried r) (plain now q m).machine (passed now m))
