-- What a request is given, and what it answers: the number, and the values that go with it.
use Rattle.std.specs.Prelude.{ℕ, ◌≤◌, ◌≡◌, ◌⊎◌, List, [], Result, Ok, Err}
use Rattle.paper.specs.declared.FileId.{FileId}
use Rattle.paper.specs.declared.PageNum.{PageNum}
use Rattle.paper.specs.declared.Facts.{Facts}
use Rattle.paper.specs.declared.Swept.{Swept}
use Rattle.paper.specs.declared.Refusal.{Refusal}
use Rattle.paper.specs.declared.UnknownNumber.{UnknownNumber}
use Rattle.paper.specs.declared.Refusal.TheVariants.{BadCall, Damaged, ClockBack, NoSuchFile, NotOwner, NoSuchPage, NoSpace, NoIds, ServiceError, Cut}
use Rattle.paper.specs.Ids.{null_id}

-- What a request is given beside now and its outcome list; Read's last is the lent page.
pub data Request : Type 0 where
  Create : ℕ → PageNum → List ℕ → ℕ → Request
  Write : ℕ → FileId → PageNum → List ℕ → Request
  Read : FileId → PageNum → List ℕ → Request
  Info : FileId → Request
  Destroy : ℕ → FileId → Request
  SetExpiry : ℕ → FileId → ℕ → Request
  Scavenge : Request

-- the page lent with a request, as it was
unfoldable pub lent_page : Request → List ℕ
lent_page (Create client number page expires) = page
lent_page (Write client id number page) = page
lent_page (Read id number lent) = lent
lent_page (Info id) = []
lent_page (Destroy client id) = []
lent_page (SetExpiry client id expires) = []
lent_page Scavenge = []

pub record Report : Type 0 where
  pub number : ℕ
  pub id : FileId
  pub facts : Facts
  pub swept : Swept

abbrev pub no_facts : Facts
no_facts = record { owner = 0; created = 0; updated = 0; expires = 0 }

abbrev pub no_counts : Swept
no_counts = record { headers = 0; pages = 0 }

-- What a request gives on Success: nothing, the id issued, Info's fields, Scavenge's counts, or what the lent page then holds.
pub data Gift : Type 0 where
  nothing : Gift
  an_id : FileId → Gift
  facts : Facts → Gift
  counts : Swept → Gift
  contents : List ℕ → Gift

abbrev pub succeeded : Gift → Report
succeeded nothing = record { number = 0; id = null_id; facts = no_facts; swept = no_counts }
succeeded (an_id i) = record { number = 0; id = i; facts = no_facts; swept = no_counts }
succeeded (facts f) = record { number = 0; id = null_id; facts = f; swept = no_counts }
succeeded (counts c) = record { number = 0; id = null_id; facts = no_facts; swept = c }
succeeded (contents c) = record { number = 0; id = null_id; facts = no_facts; swept = no_counts }

-- The numbers of the answers that are no Success.
abbrev pub number_of : Refusal → ℕ
number_of BadCall = 1
number_of Damaged = 2
number_of ClockBack = 3
number_of NoSuchFile = 4
number_of NotOwner = 5
number_of NoSuchPage = 6
number_of NoSpace = 7
number_of NoIds = 8
number_of ServiceError = 9
number_of Cut = 10

-- Numbers n r: r is the refusal with number n, or there is none.
abbrev pub Numbers : ℕ → Result Refusal UnknownNumber → Type 0
Numbers n (Ok r) = number_of r ≡ n
Numbers n (Err e) = (e ≡ record { 0 = n }) × ((n ≡ 0) ⊎ (11 ≤ n))

-- Except for Success, the id, the counts and Info's fields are 0.
abbrev pub refused : Refusal → Report
refused r = record { number = number_of r; id = null_id; facts = no_facts; swept = no_counts }

-- a lent page to read into is unchanged but on Success
abbrev pub page_after : Gift → List ℕ → List ℕ
page_after nothing lent = lent
page_after (an_id i) lent = lent
page_after (facts f) lent = lent
page_after (counts c) lent = lent
page_after (contents c) lent = c

-- Success without a value gives nothing.
abbrev pub no_gift : Unit {0} → Gift
no_gift u = nothing

module _ {A : Type 0} where
  -- What a function's result reports: the gift that its value is, or its refusal.
  abbrev pub report : (A → Gift) → Result A Refusal → Report
  report g (Ok a) = succeeded (g a)
  report g (Err r) = refused r

  -- 0 is Success.
  abbrev pub answer_number : Result A Refusal → ℕ
  answer_number (Ok a) = 0
  answer_number (Err r) = number_of r
