-- What Look finds is what Read with an all-zero list answers.
-- Assumes nothing.
use Prim.Native.Nat.{ℕ, ◌≤◌}
use mathlib.Core.Path.{◌≡◌, refl, sym, ap, ◌∙◌}
use mathlib.Core.Bool.{false, true≢false}
use mathlib.Core.List.{List}
use native.Mathlib.Omega.{arith}
use lib.Dec.{eqb}
use lib.ListN.{replicate}
use Rattle.paper.specs.declared.Bank.{Bank}
use Rattle.paper.specs.declared.FileId.{FileId}
use Rattle.paper.specs.declared.PageId.{PageId}
use Rattle.paper.specs.declared.PageNum.{PageNum}
use Rattle.std.specs.Prelude.{Option, Some, None}
use Rattle.paper.specs.Ids.{null_page_id}
use Rattle.paper.specs.Lists.{lowest}
use Rattle.paper.specs.Tables.{HS, Tables, header_at, slot_at, get_page_id}
use Rattle.paper.specs.Stores.{has_id, read_page}
use Rattle.paper.specs.Steps.{allowed, tried, attempt, in_headers, in_pages, follow, ◌>>=◌, ◌>>◌, give, refuse, ask, check, attempted, settle, step}
use Rattle.paper.specs.Answers.{Read}
use Rattle.paper.specs.Requests.{read, steps_of, reply_of, carry_out}
use Rattle.paper.specs.Bytes.{hs_from}
use Rattle.paper.specs.Service.{named_page}
use Rattle.paper.proofs.Searched.{read_none, read_at}
use Rattle.requests.specs.Seen.{SoundTables, looked}
use Rattle.rows.specs.Rows.{clocked}
use Rattle.stores.proofs.HeaderSlots.{found_slot}
use Rattle.requests.proofs.Named.{pages_named, page_named}

-- the page id by what the search for the header found
module _ (now : ℕ) (id : FileId) (number : PageNum) (s : HS) where
  pub named_none : lowest (has_id now id) s.headers ≡ None → named_page now id number s ≡ null_page_id
  unfolding named_page
  named_none e = rw (e, named_page)

  pub named_at : (n : ℕ) → lowest (has_id now id) s.headers ≡ Some n → named_page now id number s ≡ get_page_id (header_at s n) number
  unfolding named_page
  named_at n e = rw (e, named_page)

module _ (b : Bank) (now : ℕ) (id : FileId) (number : PageNum) (zeros blank : List ℕ) (t : Tables) where
  abbrev look_at : List ℕ
  look_at = looked (carry_out b now (replicate 18 0) (Read id number zeros) t) blank

  abbrev clock_set : HS
  clock_set = clocked now t.hs

  -- the page id that the header found has at the number
  abbrev lying : PageId
  lying = named_page now id number t.hs

  look_none : lowest (has_id now id) t.hs.headers ≡ None → blank ≡ look_at
  unfolding carry_out steps_of read ◌>>=◌ follow step attempted attempt allowed tried in_headers settle reply_of
  look_none e = rw (read_none now clock_set id e)

  look_no_page : (n : ℕ) → lowest (has_id now id) t.hs.headers ≡ Some n → (get_page_id (header_at t.hs n) number).0 ≡ 0 → blank ≡ look_at
  unfolding carry_out steps_of read ◌>>=◌ ◌>>◌ follow step attempted attempt allowed tried in_headers settle ask check refuse reply_of
  look_no_page n found e = rw (read_at now clock_set id n found, e)

  look_page : (n : ℕ) → lowest (has_id now id) t.hs.headers ≡ Some n → eqb (get_page_id (header_at t.hs n) number).0 0 ≡ false
      → (slot_at b t.ps (get_page_id (header_at t.hs n) number)).contents ≡ look_at
  unfolding carry_out steps_of read ◌>>=◌ ◌>>◌ follow step attempted attempt allowed tried in_headers in_pages settle read_page ask check give reply_of
  look_page n found e = rw (read_at now clock_set id n found, e)

  pub named_nowhere : lying.0 ≡ 0 → blank ≡ look_at
  named_nowhere e = go (lowest (has_id now id) t.hs.headers) refl
    where
      go : (f : Option ℕ) → lowest (has_id now id) t.hs.headers ≡ f → blank ≡ look_at
      go None p = look_none p
      go (Some n) p = look_no_page n p (ap (λ (q : PageId). q.0) (sym (named_at now id number t.hs n p)) ∙ e)

  pub named_there : eqb lying.0 0 ≡ false → (slot_at b t.ps lying).contents ≡ look_at
  named_there e = go (lowest (has_id now id) t.hs.headers) refl
    where
      go : (f : Option ℕ) → lowest (has_id now id) t.hs.headers ≡ f → (slot_at b t.ps lying).contents ≡ look_at
      go None p = absurd (true≢false (ap (λ (q : PageId). eqb q.0 0) (sym (named_none now id number t.hs p)) ∙ e))
      go (Some n) p = rw (named_at now id number t.hs n p) (look_page n p (rw (named_at now id number t.hs n p) at e))

-- it lies in the bank, since the tables are sound
pub named_in_bank : (b : Bank) (now : ℕ) (id : FileId) (number : PageNum) (headers pages : List ℕ) → SoundTables b headers pages
    → (named_page now id number (hs_from headers)).0 ≤ b.slots
named_in_bank b now id number headers pages s = go (lowest (has_id now id) (hs_from headers).headers) refl
  where
    go : (f : Option ℕ) → lowest (has_id now id) (hs_from headers).headers ≡ f → (named_page now id number (hs_from headers)).0 ≤ b.slots
    go None p = rw (named_none now id number (hs_from headers) p) (omega arith)
    go (Some n) p =
        let i = found_slot _ _ _ p in
        rw (named_at now id number (hs_from headers) n p)
        (page_named b.slots number.0 (header_at (hs_from headers) n).pages (pages_named b _ _ _ 0 _ s refl i.0 i.1))
