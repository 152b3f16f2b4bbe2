use mathlib.Core.Path.{◌≡◌}
use lib.ListN.{length}
use Rattle.paper.specs.Tables.{header_slots}
use Rattle.paper.specs.Bytes.{hs_from, ps_from}
use Rattle.sound.proofs.Headers.{Gathered}
use Rattle.sound.proofs.headers_sound.Given as goal

abbrev pub invariant-loop-n : goal.invariant-loop-n
invariant-loop-n l = (length l.seen ≡ length l.initial.seen) × (length l.ids ≡ header_slots)
    × Gathered l.bank l.c (ps_from l.bank l.pages) l.initial.seen (hs_from l.headers).headers l.n l.seen l.ids l.count
