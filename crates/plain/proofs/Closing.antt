-- A request whose row of steps goes from waiting to its gift, or ends in a phase, loses nothing: from the logic back to tables and answers.
-- Assumes nothing.
use Prim.Native.Nat.{ℕ}
use mathlib.Core.Path.{◌≡◌, refl}
use mathlib.Core.Bool.{Bool, true, false, ◌&&◌}
use mathlib.Core.List.{List}
use native.Mathlib.Omega.{arith}
use borrow.Author.Tests.{le-leb, lt-leb, ne_eqb}
use lib.Dec.{eqb}
use Rattle.paper.specs.declared.Bank.{Bank}
use Rattle.paper.specs.declared.Refusal.{Refusal}
use Rattle.paper.specs.Tables.{Tables, with_clock}
use Rattle.paper.specs.Steps.{Run, on, end, State}
use Rattle.paper.specs.Answers.{Request, lent_page, Gift, nothing, an_id, facts, counts, contents, succeeded, number_of, page_after}
use Rattle.paper.specs.Requests.{well_formed, reply_of, steps_of, carry_out}
use Rattle.paper.specs.Plain.{passed, told, plain}
use Rattle.paper.specs.View.{view, carried, beside}
use Rattle.plain.specs.Demand.{Kept, NothingLost}
use Rattle.plain.proofs.Sound.{sound_facts, facts_sound}
use Rattle.plain.proofs.Time.{time_facts, time_view}
use Rattle.plain.proofs.Logic.{Ends, Does}
use Rattle.plain.proofs.Phases.{Job, Phase, MayEnd, Stands, Anything, Ended, Given, plainly}

and-false : (a : Bool) → a && false ≡ false
and-false true = refl
and-false false = refl

-- the request on these tables
abbrev pub job_of : Bank → ℕ → Request → Tables → Job
job_of b now q t = record { bank = b; now = now; request = q; machine = passed now (view b t) }

-- a gift and the machine's say the same, but for the counts
record Alike (g : Gift) (lent : List ℕ) : Type 0 where
  number : (succeeded g).number ≡ 0
  theirs : (succeeded (plainly g)).number ≡ 0
  id : (succeeded (plainly g)).id ≡ (succeeded g).id
  facts : (succeeded (plainly g)).facts ≡ (succeeded g).facts
  page : page_after (plainly g) lent ≡ page_after g lent

alike : (g : Gift) (lent : List ℕ) → Alike g lent
alike nothing lent = record { number = refl; theirs = refl; id = refl; facts = refl; page = refl }
alike (an_id i) lent = record { number = refl; theirs = refl; id = refl; facts = refl; page = refl }
alike (facts f) lent = record { number = refl; theirs = refl; id = refl; facts = refl; page = refl }
alike (counts c) lent = record { number = refl; theirs = refl; id = refl; facts = refl; page = refl }
alike (contents c) lent = record { number = refl; theirs = refl; id = refl; facts = refl; page = refl }

module _ (b : Bank) (now : ℕ) (q : Request) (t : Tables) where
  given_kept : (g : Gift) (s : State) → Given (job_of b now q t) g s.past s.tables → Kept b now q t (reply_of (lent_page q) (on g s))
  unfolding reply_of beside carried plain told
  given_kept g s w =
      let a = alike g (lent_page q) in
      record {
        sound = facts_sound b s.tables w.facts;
        shown = rw (a.number, w.right);
        success = λ _. rw w.right (record { number = a.theirs; id = a.id; facts = a.facts; page = a.page });
      }

  ended_kept : (a : Refusal) (s : State) → Ended (job_of b now q t) a s.past s.tables → Kept b now q t (reply_of (lent_page q) (end a s))
  unfolding reply_of beside carried plain told
  ended_kept a s e = go e.phase e.may e.stands
    where
      go : (p : Phase) → MayEnd p a → Stands (job_of b now q t) p Anything s.past s.tables → Kept b now q t (reply_of (lent_page q) (end a s))
      go Phase.waits m w = record {
        sound = facts_sound b s.tables w.shows.facts;
        shown = rw (le-leb 1 (number_of a) (omega arith), lt-leb (number_of a) 3 (omega arith), ne_eqb (number_of a) 0 (omega arith), w.past, and-false (eqb (number_of a) 10)) w.shows.right;
        success = λ z. absurd (omega arith);
      }
      go (Phase.done g) m w = record {
        sound = facts_sound b s.tables w.shows.facts;
        shown = rw (m, w.past, w.shows.right);
        success = λ z. absurd (omega (arith, rw m at z));
      }

  run_kept : (r : Run Gift) → Ends (Ended (job_of b now q t)) (Given (job_of b now q t)) r → Kept b now q t (reply_of (lent_page q) r)
  run_kept (on g s) w = given_kept g s w
  run_kept (end a s) w = ended_kept a s w

-- a row of steps that goes from waiting to what it gives
abbrev pub Row : Job → Type 0
Row j = Does (Ended j) (Stands j Phase.waits Anything) (steps_of j.bank j.now j.request) (Given j)

pub nothing_lost_by : (b : Bank) (q : Request) → ((now : ℕ) (t : Tables) → well_formed b q ≡ true → Row (job_of b now q t)) → NothingLost b q
unfolding carry_out
nothing_lost_by b q row now os t r =
    let f = sound_facts b t r.sixteen r.whole r.sound in
    run_kept b now q t _ ((row now t r.formed).run os (record { taken = 0; past = false; tables = with_clock now t })
    (record {
      past = refl;
      shows = record { facts = time_facts b now t f r.time; clock = refl; right = time_view b now t f r.time };
      also = tt;
    }))
