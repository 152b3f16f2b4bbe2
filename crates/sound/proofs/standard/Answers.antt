-- `standard` hands the bank's own numbers down.
use native.Mathlib.Omega.{arith}
use Rattle.sound.proofs.standard.Goals as goal

pub tables_sound-requires-clause-geometry : goal.tables_sound-requires-clause-geometry
tables_sound-requires-clause-geometry c = record { few = omega arith; whole = c.requires.1 }
