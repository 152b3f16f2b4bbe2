-- `format` refuses a wrong length and otherwise leaves fresh tables.
use Rattle.paper.specs.Service.{format}
use Rattle.service.proofs.format.Goals as goal

pub returns : goal.returns
unfolding format
returns c =
    rw (← c.tables_fit.ensures, c.if-not-tables_fit.false, c.format.ensures.headers_after, c.format.ensures.pages_after)
