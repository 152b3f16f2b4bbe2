-- `set_expiry` is what the request does on sound tables where nothing is refused before.
use mathlib.Core.Path.{refl}
use Rattle.paper.specs.Requests.{well_formed}
use Rattle.service.proofs.Exact.{carried_out}
use Rattle.service.proofs.set_expiry.Goals as goal

pub returns : goal.returns
unfolding well_formed
returns c =
    carried_out _ _ _ _ _ _ _ _ _ _ _ c.admit.ensures c.in_ok-admit.was refl
    (λ i. (c.type_inv.headers i).fits) c.set_expiry.auto.headers (λ i. (c.type_inv.pages i).fits) c.set_expiry.auto.pages c.set_expiry.ensures
