-- The sessions worked by hand, on any bank, and what document 01 says that they print and show.
use Rattle.std.specs.Prelude.{ℕ, ◌-◌, List, [], ◌∷◌, set, replicate, take}
use Rattle.paper.specs.declared.Bank.{Bank}
use Rattle.paper.specs.declared.Header.{Header}
use Rattle.paper.specs.Ids.{file_id, page_id, page_num}
use Rattle.paper.specs.Tables.{Tables, fresh, header_at, put_header}
use Rattle.paper.specs.Answers.{Request, Create, Write, Read, Info, Destroy, SetExpiry, Scavenge, Report}
use Rattle.paper.specs.Requests.{Reply, serve}
use Rattle.paper.specs.Bytes.{headers_length, pages_length}
use Rattle.paper.specs.Service.{Left, serve_bytes, format}

pub record Call : Type 0 where
  pub now : ℕ
  pub outcomes : List ℕ
  pub request : Request

-- lists are zero unless said
abbrev pub at : ℕ → Request → Call
at now r = record { now = now; outcomes = replicate 18 0; request = r }

-- byte k of the list, from 1, is o
abbrev pub failing : ℕ → ℕ → ℕ → Request → Call
failing k o now r = record { now = now; outcomes = set (replicate 18 0) (k - 1) o; request = r }

-- page A is 41 hex, B is 42 hex
abbrev pub page_a : Bank → List ℕ
page_a b = replicate b.size 0x41

abbrev pub page_b : Bank → List ℕ
page_b b = replicate b.size 0x42

abbrev pub create_a : Bank → ℕ → Request
create_a b expires = Create 7 (page_num 0) (page_a b) expires

abbrev pub write_b : Bank → ℕ → ℕ → Request
write_b b client id = Write client (file_id id) (page_num 0) (page_b b)

-- into a page of zeros
abbrev pub read_of : Bank → ℕ → ℕ → Request
read_of b id number = Read (file_id id) (page_num number) (replicate b.size 0)

abbrev pub set_expiry_to : ℕ → Request
set_expiry_to expires = SetExpiry 7 (file_id 1) expires

-- Each begins with Create at 10, number 0, A, expires 100.
abbrev pub first : Bank → Call
first b = at 10 (create_a b 100)

abbrev pub sessions : Bank → List (List Call)
sessions b =
    (first b ∷ at 99 (read_of b 1 0) ∷ at 100 (read_of b 1 0) ∷ [])
    ∷ (first b ∷ at 11 (read_of b 1 1) ∷ at 11 (read_of b 1 16) ∷ [])
    ∷ (at 10 (create_a b 5) ∷ at 10 (read_of b 1 0) ∷ [])
    ∷ (first b ∷ at 11 (write_b b 8 1) ∷ at 11 (write_b b 8 2) ∷ [])
    ∷ (first b ∷ failing 3 1 20 (write_b b 7 1) ∷ at 20 (read_of b 1 0) ∷ at 20 (read_of b 2 0) ∷ [])
    ∷ (first b ∷ failing 4 1 20 (write_b b 7 1) ∷ at 20 (read_of b 2 0) ∷ at 20 (read_of b 1 0) ∷ [])
    ∷ (first b ∷ failing 3 2 20 (write_b b 7 1) ∷ at 20 (read_of b 1 0) ∷ [])
    ∷ (first b ∷ failing 4 2 20 (write_b b 7 1) ∷ at 20 (read_of b 1 0) ∷ at 20 (read_of b 2 0) ∷ [])
    ∷ (first b ∷ failing 2 1 20 (set_expiry_to 200) ∷ at 100 (read_of b 1 0) ∷ [])
    ∷ (first b ∷ failing 3 1 20 (set_expiry_to 50) ∷ at 49 (read_of b 2 0) ∷ at 50 (read_of b 2 0) ∷ [])
    ∷ (first b ∷ at 9 (read_of b 1 0) ∷ at 10 (read_of b 1 0) ∷ [])
    ∷ (first b ∷ failing 3 1 20 (Destroy 7 (file_id 1)) ∷ at 99 Scavenge ∷ at 100 Scavenge ∷ [])
    ∷ []

-- the answer numbers that the test program prints, Create's included
abbrev pub printed : List (List ℕ)
printed =
    (0 ∷ 0 ∷ 4 ∷ [])
    ∷ (0 ∷ 6 ∷ 1 ∷ [])
    ∷ (0 ∷ 4 ∷ [])
    ∷ (0 ∷ 5 ∷ 4 ∷ [])
    ∷ (0 ∷ 9 ∷ 0 ∷ 4 ∷ [])
    ∷ (0 ∷ 0 ∷ 0 ∷ 4 ∷ [])
    ∷ (0 ∷ 10 ∷ 0 ∷ [])
    ∷ (0 ∷ 10 ∷ 4 ∷ 0 ∷ [])
    ∷ (0 ∷ 9 ∷ 4 ∷ [])
    ∷ (0 ∷ 0 ∷ 0 ∷ 4 ∷ [])
    ∷ (0 ∷ 3 ∷ 0 ∷ [])
    ∷ (0 ∷ 0 ∷ 0 ∷ 0 ∷ [])
    ∷ []

-- with what each answer shows behind its number: an id, a page's first byte, the counts; 0 where it was refused
abbrev pub shown : List (List (List ℕ))
shown =
    ((0 ∷ 1 ∷ []) ∷ (0 ∷ 0x41 ∷ []) ∷ (4 ∷ 0 ∷ []) ∷ [])
    ∷ ((0 ∷ 1 ∷ []) ∷ (6 ∷ 0 ∷ []) ∷ (1 ∷ 0 ∷ []) ∷ [])
    ∷ ((0 ∷ 1 ∷ []) ∷ (4 ∷ 0 ∷ []) ∷ [])
    ∷ ((0 ∷ 1 ∷ []) ∷ (5 ∷ 0 ∷ []) ∷ (4 ∷ 0 ∷ []) ∷ [])
    ∷ ((0 ∷ 1 ∷ []) ∷ (9 ∷ 0 ∷ []) ∷ (0 ∷ 0x41 ∷ []) ∷ (4 ∷ 0 ∷ []) ∷ [])
    ∷ ((0 ∷ 1 ∷ []) ∷ (0 ∷ 2 ∷ []) ∷ (0 ∷ 0x42 ∷ []) ∷ (4 ∷ 0 ∷ []) ∷ [])
    ∷ ((0 ∷ 1 ∷ []) ∷ (10 ∷ 0 ∷ []) ∷ (0 ∷ 0x41 ∷ []) ∷ [])
    ∷ ((0 ∷ 1 ∷ []) ∷ (10 ∷ 0 ∷ []) ∷ (4 ∷ 0 ∷ []) ∷ (0 ∷ 0x42 ∷ []) ∷ [])
    ∷ ((0 ∷ 1 ∷ []) ∷ (9 ∷ 0 ∷ []) ∷ (4 ∷ 0 ∷ []) ∷ [])
    ∷ ((0 ∷ 1 ∷ []) ∷ (0 ∷ 2 ∷ []) ∷ (0 ∷ 0x41 ∷ []) ∷ (4 ∷ 0 ∷ []) ∷ [])
    ∷ ((0 ∷ 1 ∷ []) ∷ (3 ∷ 0 ∷ []) ∷ (0 ∷ 0x41 ∷ []) ∷ [])
    ∷ ((0 ∷ 1 ∷ []) ∷ (0 ∷ []) ∷ (0 ∷ 0 ∷ 0 ∷ []) ∷ (0 ∷ 0 ∷ 1 ∷ []) ∷ [])
    ∷ []

-- the replies of a run of requests, in order
unfoldable pub run : Bank → List Call → Tables → List Reply
run b [] t = []
run b (c ∷ cs) t = let r = serve b c.now c.outcomes c.request t in r ∷ run b cs r.tables

-- the same through bytes
unfoldable pub run_bytes : Bank → List Call → Left → List Left
run_bytes b [] l = []
run_bytes b (c ∷ cs) l = let r = serve_bytes b c.now c.outcomes c.request l.headers l.pages in r ∷ run_bytes b cs r

-- Fresh tables, made by Format from bytes that are all ones.
unfoldable pub formatted : Bank → Left
formatted b = format b (replicate headers_length 255) (replicate (pages_length b) 255)

unfoldable pub given : Request → Report → List ℕ → List ℕ
given (Create client number page expires) r p = r.id.0 ∷ []
given (Write client id number page) r p = r.id.0 ∷ []
given (Read id number lent) r p = take 1 p
given (Info id) r p = r.facts.owner ∷ r.facts.created ∷ r.facts.updated ∷ r.facts.expires ∷ []
given (Destroy client id) r p = []
given (SetExpiry client id expires) r p = r.id.0 ∷ []
given Scavenge r p = r.swept.headers ∷ r.swept.pages ∷ []

unfoldable pub shows : Call → Report → List ℕ → List ℕ
shows c r p = r.number ∷ given c.request r p

-- Session 13: the header's page id altered to 2; Read at 10.
abbrev pub altered_to : ℕ → Header → Header
altered_to p h = record {
  used = h.used;
  id = h.id;
  owner = h.owner;
  created = h.created;
  updated = h.updated;
  expires = h.expires;
  pages = set h.pages 0 (page_id p);
}

unfoldable pub session13 : Bank → List Reply
session13 b =
    let r = serve b 10 (replicate 18 0) (create_a b 100) (fresh b) in
    let t = r.tables in
    r ∷ run b (at 10 (read_of b 1 0) ∷ []) (record { hs = put_header 1 (altered_to 2 (header_at t.hs 1)) t.hs; ps = t.ps })
