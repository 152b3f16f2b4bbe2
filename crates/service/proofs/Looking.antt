-- Look by its definition: Read with an all-zero list and a page of zeros.
-- Assumes nothing.
use Prim.Native.Nat.{ℕ}
use mathlib.Core.Path.{◌≡◌, refl, ◌∙◌}
use mathlib.Core.Bool.{Bool, true, false, cond}
use mathlib.Core.List.{List}
use native.Mathlib.Omega.{arith}
use lib.Dec.{leb}
use borrow.Author.Tests.{eqb-true}
use lib.ListN.{replicate, length-replicate}
use Rattle.std.specs.Prelude.{Result, Ok, Err}
use Rattle.std.proofs.lemmas.Bool.Decides.{nat_tests}
use Rattle.paper.specs.declared.Bank.{Bank}
use Rattle.paper.specs.declared.FileId.{FileId}
use Rattle.paper.specs.declared.PageId.{PageId}
use Rattle.paper.specs.declared.PageNum.{PageNum}
use Rattle.paper.specs.declared.Refusal.{Refusal}
use Rattle.paper.specs.declared.Refusal.TheVariants.{BadCall}
use Rattle.paper.specs.Ids.{null_page_id}
use Rattle.paper.specs.Lists.{is_zero}
use Rattle.paper.specs.Tables.{slot_at}
use Rattle.paper.specs.Answers.{Request, Read, lent_page, number_of}
use Rattle.paper.specs.Requests.{page_fits, well_formed, carry_out}
use Rattle.paper.specs.Bytes.{hs_from, ps_from, tables_from}
use Rattle.paper.specs.Service.{Left, untouched, written, refusal, serve_bytes, look, named_page, look_slot}
use Rattle.requests.specs.Seen.{looked}
use Rattle.requests.proofs.Looks.{named_nowhere, named_there}
use Rattle.service.specs.Border.{tables_refusal, admission}
use Rattle.service.proofs.Admission.{admits}

nonzero : (a : Refusal) → is_zero (number_of a) ≡ false
nonzero a = grind arith

module _ (b : Bank) (now : ℕ) (id : FileId) (number : PageNum) (headers pages : List ℕ) where
  abbrev smooth : List ℕ
  smooth = replicate 18 0

  abbrev asked : Request
  asked = Read id number (replicate b.size 0)

  -- what Look refuses, and otherwise what it finds
  abbrev pub look_refusal : Result (Unit {0}) Refusal
  look_refusal = cond (leb number.0 15) (tables_refusal b now headers pages) (Err BadCall)

  as_read : refusal b now smooth asked headers pages ≡ look_refusal
  unfolding well_formed page_fits admission
  as_read = admits b now smooth asked headers pages ∙ grind (arith, nat_tests, length-replicate {A = ℕ})

  pub slot_looked : look_slot b now id number headers pages ≡ elim look_refusal [ Ok u ↦ named_page now id number (hs_from headers) | Err a ↦ null_page_id ]
  unfolding look_slot
  slot_looked = rw (look_slot, as_read)

  module _ (blank : List ℕ) where
    abbrev carried : List ℕ
    carried = looked (carry_out b now smooth asked (tables_from b headers pages)) blank

    -- what Look takes of a Read
    abbrev taken : Left → List ℕ
    taken l = cond (is_zero l.report.number) l.page blank

    pub page_looked : look b now id number blank headers pages ≡ elim look_refusal [ Ok u ↦ carried | Err a ↦ blank ]
    unfolding look serve_bytes
    page_looked = rw (look, serve_bytes, as_read) (go look_refusal)
      where
        go : (x : Result (Unit {0}) Refusal)
            → taken (elim x [ Ok u ↦ written (carry_out b now smooth asked (tables_from b headers pages)) | Err a ↦ untouched a (lent_page asked) headers pages ])
            ≡ elim x [ Ok u ↦ carried | Err a ↦ blank ]
        go (Ok u) = refl
        go (Err a) = rw (nonzero a)

    -- the bytes that Look answers are those of the slot where they lie, and the blank where they lie nowhere
    abbrev shown : PageId → List ℕ
    shown p = cond (is_zero p.0) blank (slot_at b (ps_from b pages) p).contents

    shown_named : shown (named_page now id number (hs_from headers)) ≡ carried
    shown_named = go (is_zero (named_page now id number (hs_from headers)).0) refl
      where
        go : (z : Bool) → is_zero (named_page now id number (hs_from headers)).0 ≡ z → shown (named_page now id number (hs_from headers)) ≡ carried
        go true e = rw e (named_nowhere b now id number _ blank (tables_from b headers pages) (eqb-true _ 0 e))
        go false e = rw e (named_there b now id number _ blank (tables_from b headers pages) e)

    pub look_lies : shown (look_slot b now id number headers pages) ≡ look b now id number blank headers pages
    look_lies = rw (slot_looked, page_looked) (go look_refusal)
      where
        go : (x : Result (Unit {0}) Refusal) → shown (elim x [ Ok u ↦ named_page now id number (hs_from headers) | Err a ↦ null_page_id ]) ≡ elim x [ Ok u ↦ carried | Err a ↦ blank ]
        go (Ok u) = shown_named
        go (Err a) = refl
