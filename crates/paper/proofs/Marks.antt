-- What document 01 says beside the sessions, each computed.
use Prim.Native.Nat.{ℕ}
use mathlib.Core.Path.{◌≡◌, refl}
use mathlib.Core.Bool.{true, false}
use mathlib.Core.List.{List, [], ◌∷◌, ◌++◌, map}
use lib.ListN.{set, replicate, drop}
use Rattle.paper.specs.declared.Header.{Header}
use Rattle.std.specs.Prelude.{Result, Ok, Err}
use Rattle.paper.specs.declared.Refusal.{Refusal}
use Rattle.paper.specs.declared.Refusal.TheVariants.{BadCall, Damaged, ClockBack, NoSuchFile, NotOwner, NoSuchPage, NoSpace, NoIds, ServiceError, Cut}
use Rattle.paper.specs.Ids.{file_id, page_id, null_id}
use Rattle.paper.specs.Tables.{standard, Tables, header_at, slot_at, no_pages, fresh}
use Rattle.paper.specs.Stores.{full_slot}
use Rattle.paper.specs.Steps.{is_cut}
use Rattle.paper.specs.Answers.{an_id, facts, counts, no_gift, no_facts, no_counts, report, number_of, answer_number}
use Rattle.paper.specs.Requests.{Reply}
use Rattle.paper.specs.Bytes.{headers_length, pages_length, header_bytes, header_from}
use Rattle.paper.specs.Sessions.{Call, run, first, failing, write_b, page_b}
use Rattle.paper.proofs.Computing.{computing}

-- the tables that a run of requests leaves
abbrev pub after : List Call → Tables
after cs = last (run standard cs (fresh standard))
  where
    last : List Reply → Tables
    last [] = fresh standard
    last (r ∷ []) = r.tables
    last (r ∷ q ∷ rs) = last (q ∷ rs)

-- Buffers have exact lengths: header table 2,340 bytes, page table 32,768.
pub lengths : (headers_length ≡ 2340) × (pages_length standard ≡ 32768)
lengths = (refl, refl)

-- The first header record after Create.
pub first_record : header_bytes (header_at (after (first standard ∷ [])).hs 1)
    ≡ 0x80 ∷ 0 ∷ 0 ∷ 1 ∷ 0 ∷ 7 ∷ 0 ∷ 0 ∷ 0 ∷ 0x0A ∷ 0 ∷ 0 ∷ 0 ∷ 0x0A ∷ 0 ∷ 0 ∷ 0 ∷ 0x64 ∷ 0 ∷ 0x80 ∷ replicate 16 0
unfolding computing
first_record = refl

-- Page id 256 at number 15 alone ends a record with 01 00.
abbrev last_page : Header
last_page = record { used = true; id = null_id; owner = 0; created = 0; updated = 0; expires = 0; pages = set no_pages 15 (page_id 256) }

pub last_page_lem : drop 34 (header_bytes last_page) ≡ 1 ∷ 0 ∷ []
unfolding computing
last_page_lem = refl

-- A record with every field its own: packed and read back.
abbrev distinct_fields : Header
distinct_fields = record {
  used = true;
  id = file_id 0x01020304;
  owner = 0x0506;
  created = 0x0708090A;
  updated = 0x0B0C0D0E;
  expires = 0x0F101112;
  pages = map page_id (256 ∷ 2 ∷ 254 ∷ 4 ∷ 252 ∷ 6 ∷ 250 ∷ 8 ∷ 248 ∷ 10 ∷ 246 ∷ 12 ∷ 244 ∷ 14 ∷ 242 ∷ 16 ∷ []);
}

abbrev distinct_bytes : List ℕ
distinct_bytes =
    0x81 ∷ 0x02 ∷ 0x03 ∷ 0x04 ∷ 0x05 ∷ 0x06 ∷ 0x07 ∷ 0x08 ∷ 0x09 ∷ 0x0A ∷ 0x0B ∷ 0x0C ∷ 0x0D ∷ 0x0E ∷ 0x0F ∷ 0x10 ∷ 0x11 ∷ 0x12
    ∷ 0x80 ∷ 0x00 ∷ 0x9F ∷ 0xC0 ∷ 0x47 ∷ 0xE0 ∷ 0x19 ∷ 0xF4 ∷ 0x08 ∷ 0x7C ∷ 0x02 ∷ 0x9E ∷ 0xC0 ∷ 0xC7 ∷ 0xA0 ∷ 0x39 ∷ 0xE4 ∷ 0x10
    ∷ []

pub distinct_fields_lem : (header_bytes distinct_fields ≡ distinct_bytes) × (header_from distinct_bytes ≡ distinct_fields)
unfolding computing
distinct_fields_lem = (refl, refl)

-- Session 5: page slot 2 holds B till 100.
pub slot_two : slot_at standard (after (first standard ∷ failing 3 1 20 (write_b standard 7 1) ∷ [])).ps (page_id 2) ≡ full_slot (page_b standard) 100
unfolding computing
slot_two = refl

abbrev refusals : List Refusal
refusals = BadCall ∷ Damaged ∷ ClockBack ∷ NoSuchFile ∷ NotOwner ∷ NoSuchPage ∷ NoSpace ∷ NoIds ∷ ServiceError ∷ Cut ∷ []

-- The numbers of the answers, by their names, as a caller counts them and as a report has them.
pub answers_numbered : map {B = ℕ × ℕ} (λ (a : Result (Unit {0}) Refusal). (answer_number a, (report no_gift a).number)) (Ok tt ∷ map Err refusals)
    ≡ map {B = ℕ × ℕ} (λ n. (n, n)) (0 ∷ 1 ∷ 2 ∷ 3 ∷ 4 ∷ 5 ∷ 6 ∷ 7 ∷ 8 ∷ 9 ∷ 10 ∷ [])
answers_numbered = refl

-- Success has its values, and every refusal zeros.
pub answers_valued : (report an_id (Ok (file_id 5)) ≡ record { number = 0; id = file_id 5; facts = no_facts; swept = no_counts })
    × (report facts (Ok (record { owner = 1; created = 2; updated = 3; expires = 4 }))
    ≡ record { number = 0; id = null_id; facts = record { owner = 1; created = 2; updated = 3; expires = 4 }; swept = no_counts })
    × (report counts (Ok (record { headers = 1; pages = 2 })) ≡ record { number = 0; id = null_id; facts = no_facts; swept = record { headers = 1; pages = 2 } })
    × (report no_gift (Ok tt) ≡ record { number = 0; id = null_id; facts = no_facts; swept = no_counts })
    × (map (λ r. report an_id (Err r)) refusals ≡ map (λ r. record { number = number_of r; id = null_id; facts = no_facts; swept = no_counts }) refusals)
answers_valued = (refl, refl, refl, refl, refl)

-- Of the refusals Cut alone is not passed over.
pub only_cut : map is_cut refusals ≡ replicate 9 false ++ true ∷ []
only_cut = refl
