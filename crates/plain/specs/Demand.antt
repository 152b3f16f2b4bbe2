-- Demand 3 for one request, on records: the tables stay sound, show what the plain machine then holds, and a Success is the plain machine's.
use Rattle.std.specs.Prelude.{ℕ, ◌≤◌, ◌≡◌, true, List, length}
use Rattle.paper.specs.declared.Bank.{Bank}
use Rattle.paper.specs.Tables.{Tables, clock_of, header_at}
use Rattle.paper.specs.Sound.{sound}
use Rattle.paper.specs.Answers.{Request}
use Rattle.paper.specs.Requests.{Reply, well_formed, carry_out}
use Rattle.paper.specs.Plain.{Told, plain}
use Rattle.paper.specs.View.{view, beside}

-- sound tables of whole records, with a request that is well-formed and no clock gone back
pub record Ready (b : Bank) (now : ℕ) (q : Request) (t : Tables) : Type 0 where
  pub sixteen : (n : ℕ) → length (header_at t.hs n).pages ≡ 16
  pub whole : length t.ps ≡ b.slots
  pub sound : sound b t ≡ true
  pub time : clock_of t ≤ now
  pub formed : well_formed b q ≡ true

-- A Success is one that the plain machine gives: its number, id, Info's fields and the lent page. (It knows no counts.)
pub record Agrees (r : Reply) (m : Told) : Type 0 where
  pub number : m.report.number ≡ 0
  pub id : m.report.id ≡ r.report.id
  pub facts : m.report.facts ≡ r.report.facts
  pub page : m.page ≡ r.page

pub record Kept (b : Bank) (now : ℕ) (q : Request) (t : Tables) (r : Reply) : Type 0 where
  pub sound : sound b r.tables ≡ true
  pub shown : view b r.tables ≡ beside now q r (view b t)
  pub success : r.report.number ≡ 0 → Agrees r (plain now q (view b t))

-- whatever the outcomes
abbrev pub NothingLost : Bank → Request → Type 0
NothingLost b q = (now : ℕ) (os : List ℕ) (t : Tables) → Ready b now q t → Kept b now q t (carry_out b now os q t)
