-- `headers_sound` walks the headers in order, and compares the ids that it gathered.
use Prim.Native.Nat.{ℕ, ◌≤◌}
use mathlib.Core.Path.{sym, ap, ap₂, ◌∙◌}
use mathlib.Core.Bool.{Bool, ◌&&◌}
use mathlib.Core.List.{List}
use native.Mathlib.Omega.{arith}
use lib.ListN.{length, length-set}
use Rattle.paper.specs.Lists.{distinct}
use Rattle.paper.specs.Bytes.{hs_from}
use Rattle.stores.proofs.HeaderSlots.{slots as all_slots}
use Rattle.sound.specs.Seen.{ids_in_use}
use Rattle.sound.proofs.Headers.{gather_broken, gather_unused, gather_used, gather_ends}
use Rattle.sound.proofs.headers_sound.Goals.{In-loop-n, in-Some, in_default-named}
use Rattle.sound.proofs.headers_sound.Goals as goal

in_table : (t : In-loop-n) → t.loop-n.n ≤ length (hs_from t.args.headers.now).headers
in_table t = omega (arith, all_slots t.args.headers.now)

pub returns-in_default : goal.returns-in_default
returns-in_default c =
    let l = c.loop-n in
    let hs = (hs_from c.args.headers.now).headers in
    let here = in_table (goal.at.returns-in_default c).In-loop-n in
    sym (ap (λ (p : Bool). p && distinct (ids_in_use hs)) (gather_broken l.invariant.2 l.auto.n here _ (sym c.in_default.ensures.value)))

pub loop-n-preserved : goal.loop-n-preserved
loop-n-preserved c =
    let l = c.loop-n in
    let g = l.invariant.2 in
    let here = in_table (goal.at.loop-n-preserved c).In-loop-n in
    let told = sym c.in-Ok.ensures.value in
    let marks = c.in-Ok.ensures.marks in
    let long = c.header_sound.auto.seen ∙ l.invariant.0 in
    elim c.match-named.branch [
      | in-Some w ↦ (
        long,
        ap length w.ids-is ∙ simp length-set l.invariant.1,
        rw (w.ids-is, w.count-is) (gather_used g l.auto.n here _ _ told marks _ w.in-Some.is (omega (arith, g.few))),
      )
      | in_default-named w ↦ (
        long,
        ap length w.ids-is ∙ l.invariant.1,
        rw (w.ids-is, w.count-is) (gather_unused g l.auto.n here _ _ told marks w.in_default-named.is),
      )
    ]

pub returns : goal.returns
returns c =
    let e = gather_ends c.loop-n.invariant.2 (omega (arith, all_slots c.args.headers.now)) in
    c.all_distinct.ensures ∙ ap₂ (λ (p : Bool) (ids : List ℕ). p && distinct ids) (sym e.0) e.1
