-- Fresh tables are sound and show the fresh machine, and Format leaves them whatever the bytes were.
-- Assumes nothing.
use Prim.Native.Nat.{ℕ, zero, suc}
use mathlib.Core.Path.{◌≡◌, refl, ap, ◌∙◌}
use mathlib.Core.Bool.{true}
use mathlib.Core.List.{List, []}
use borrow.Author.Tests.{eq-eqb}
use lib.ListN.{length, replicate}
use Rattle.paper.specs.declared.Bank.{Bank}
use Rattle.paper.specs.Lists.{all, lowest_from}
use Rattle.paper.specs.Tables.{no_slot, fresh}
use Rattle.paper.specs.Sound.{s1, s2, s3, s4, s5, sound, header_sound, zero_header, slot_sound, page_ids}
use Rattle.paper.specs.Answers.{Report, nothing, succeeded}
use Rattle.paper.specs.Bytes.{headers_length, pages_length, tables_from, header_table, page_table}
use Rattle.paper.specs.Service.{Left, format}
use Rattle.paper.specs.Plain.{fresh_machine}
use Rattle.paper.specs.View.{view}
use Rattle.service.specs.Border.{left}
use Rattle.plain.proofs.Lists.{both_true}
use Rattle.plain.proofs.Sound.{zeros_slot}
use Rattle.history.proofs.Ranges.{fresh_fits}
use Rattle.history.proofs.Served.{read_back}

slots_sound : (b : Bank) (n : ℕ) → all slot_sound (replicate n (no_slot b)) ≡ true
slots_sound b zero = refl
slots_sound b (suc n) = both_true _ _ (zeros_slot b) (slots_sound b n)

fresh_sound : (b : Bank) → sound b (fresh b) ≡ true
unfolding sound s1 s2 s3 s4 s5 header_sound zero_header page_ids
fresh_sound b = both_true _ _ (both_true _ _ (slots_sound b b.slots) refl) refl

fresh_view : (b : Bank) → view b (fresh b) ≡ fresh_machine
unfolding view lowest_from
fresh_view b = refl

pub formatted : (b : Bank) (headers pages hx px : List ℕ) → length headers ≡ headers_length → length pages ≡ pages_length b → (r : Report) → left r [] hx px ≡ format b headers pages
    → (sound b (tables_from b hx px) ≡ true) × (view b (tables_from b hx px) ≡ fresh_machine) × (r.number ≡ 0)
unfolding format
formatted b headers pages hx px lh lp r e =
    let w : left r [] hx px ≡ fresh_left = rw (eq-eqb _ _ lh, eq-eqb _ _ lp) at e in
    let same : tables_from b hx px ≡ fresh b = ap (λ (k : Left). tables_from b k.headers k.pages) w ∙ read_back b (fresh b) (fresh_fits b) in
    (rw same (fresh_sound b), rw same (fresh_view b), ap (λ (k : Left). k.report.number) w)
  where
    fresh_left : Left
    fresh_left = record { report = succeeded nothing; page = []; headers = header_table (fresh b).hs; pages = page_table (fresh b).ps }
