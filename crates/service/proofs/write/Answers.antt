-- `write` is what the request does on sound tables where nothing is refused before.
use mathlib.Core.Path.{sym, ◌∙◌}
use Rattle.paper.specs.Requests.{well_formed}
use Rattle.service.proofs.Exact.{carried_out}
use Rattle.service.proofs.write.Goals as goal

pub returns : goal.returns
unfolding well_formed
returns c =
    carried_out _ _ _ _ _ _ _ _ _ _ _ c.admit.ensures c.in_ok-admit.was (sym c.page_fits.ensures ∙ c.if-not-page_fits.false)
    (λ i. (c.type_inv.headers i).fits) c.write.auto.headers (λ i. (c.type_inv.pages i).fits) c.write.auto.pages c.write.ensures
