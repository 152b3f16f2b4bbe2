-- Demand 3 over any run of requests, on the bytes of the two tables: they stay sound and show the plain machine's files, and each Success is the machine's.
-- Assumes nothing but what each statement says.
use Prim.Native.Nat.{ℕ, ◌≤◌}
use mathlib.Core.Path.{◌≡◌, refl, ap, subst, ◌∙◌}
use mathlib.Core.Bool.{true}
use mathlib.Core.List.{List, []}
use lib.ListN.{length}
use Rattle.paper.specs.declared.Bank.{Bank}
use Rattle.paper.specs.Sound.{sound}
use Rattle.paper.specs.Answers.{Report}
use Rattle.paper.specs.Bytes.{headers_length, pages_length, tables_from}
use Rattle.paper.specs.Service.{format}
use Rattle.paper.specs.Plain.{fresh_machine}
use Rattle.paper.specs.View.{view}
use Rattle.service.specs.Border.{left}
use Rattle.history.specs.History.{Seen, Buffers, History, nothing, then, machine_after, AllAgreed, NothingEverLost}
use Rattle.history.proofs.Calls.{call}
use Rattle.history.proofs.Fresh.{formatted}

-- From sound tables, whatever is asked, at whatever times and with whatever outcomes; by one call at a time.
-- Assumes of each call its border's contract, parameters within their types, and buffers that stay bytes of their lengths; 511 slots, as page ids have nine bits.
-- Does not cover Look, Scavenge's counts, and which refusal was given; after Cut the plain machine knows from the steps whether it carries out, the caller does not.
pub nothing_ever_lost : (b : Bank) → b.slots ≤ 511 → (headers pages : List ℕ) → Buffers b headers pages → sound b (tables_from b headers pages) ≡ true
    → (ss : List Seen) → History b headers pages ss → NothingEverLost b headers pages ss
nothing_ever_lost b few headers pages l ok ss nothing = record { sound = ok; shown = refl; agreed = tt }
nothing_ever_lost b few headers pages l ok ss (then {s = s} {ss = rest} allowed next h) =
    let one = call b few headers pages l ok s s.asked allowed in
    let after = nothing_ever_lost b few s.headers s.pages next one.sound rest h in
    record {
      sound = after.sound;
      shown = after.shown ∙ ap (machine_after b s.headers s.pages rest) one.shown;
      agreed = (one.agreed, subst (AllAgreed b s.headers s.pages rest) one.shown after.agreed);
    }

-- Format on tables of the right lengths answers 0 and leaves the fresh machine, whatever the bytes were. Assumes its border's contract.
pub format_fresh : (b : Bank) (headers pages hx px : List ℕ) → length headers ≡ headers_length → length pages ≡ pages_length b
    → (r : Report) → left r [] hx px ≡ format b headers pages
    → (sound b (tables_from b hx px) ≡ true) × (view b (tables_from b hx px) ≡ fresh_machine) × (r.number ≡ 0)
format_fresh b headers pages hx px lh lp r e = formatted b headers pages hx px lh lp r e
