-- `held_once` walks one half, then the other over the map as the first left it.
use Prim.Native.Nat.{◌≤◌}
use mathlib.Core.Path.{ap, ap₂, ◌∙◌}
use mathlib.Core.Bool.{Bool, ◌&&◌}
use mathlib.Core.List.{List}
use lib.ListN.{length, take, drop}
use Rattle.paper.specs.Bytes.{ps_from, ids_of}
use Rattle.sound.specs.Seen.{marked, held_to, once}
use Rattle.sound.proofs.Seen.{once_halves, marked_halves}
use Rattle.std.proofs.Common.{rules}
use Rattle.sound.proofs.held_once.Goals as goal

pub returns : goal.returns
returns c =
    let a = c.args in
    let one = c.held_each-first.ensures in
    let two = c.held_each-second.ensures in
    let f = held_to a.bank (ps_from a.bank a.pages.now) a.expires in
    let seen = a.seen.now in
    let few : length a.ids ≤ 16 = search rules in
    let rest = take 8 (drop 8 a.ids) in
    record {
      value = ap₂ (λ (p q : Bool). p && q) one.value (two.value ∙ ap (λ (l : List Bool). once f l rest) one.marks) ∙ once_halves seen a.ids few f;
      marks = two.marks ∙ ap (λ (l : List Bool). marked l (ids_of rest)) one.marks ∙ marked_halves seen a.ids few;
    }
