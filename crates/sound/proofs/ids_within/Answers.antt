-- `ids_within` joins the tests by and.
use mathlib.Core.Path.{refl}
use Rattle.sound.specs.Seen.{id_within}
use Rattle.paper.proofs.Tests.{fold_all}
use Rattle.std.proofs.Common.{rules}
use Rattle.sound.proofs.ids_within.Goals as goal

pub returns : goal.returns
returns c = fold_all c.fold.ensures.ran c.iter.ensures.rest (λ t. t) (id_within c.args.bank.slots) refl (λ a x b f k. (cc, search rules))
