-- Nothing is lost, whatever the request.
-- Assumes nothing.
use Rattle.paper.specs.declared.Bank.{Bank}
use Rattle.paper.specs.Answers.{Request, Create, Write, Read, Info, Destroy, SetExpiry, Scavenge}
use Rattle.plain.specs.Demand.{NothingLost}
use Rattle.plain.proofs.Reading.{info_loses_nothing, read_loses_nothing}
use Rattle.plain.proofs.Create.{create_loses_nothing}
use Rattle.plain.proofs.Write.{write_loses_nothing}
use Rattle.plain.proofs.Destroy.{destroy_loses_nothing}
use Rattle.plain.proofs.SetExpiry.{set_expiry_loses_nothing}
use Rattle.plain.proofs.Scavenge.{scavenge_loses_nothing}

pub nothing_lost : (b : Bank) (q : Request) → NothingLost b q
nothing_lost b (Create client number page expires) = create_loses_nothing b client number page expires
nothing_lost b (Write client id number page) = write_loses_nothing b client id number page
nothing_lost b (Read id number lent) = read_loses_nothing b id number lent
nothing_lost b (Info id) = info_loses_nothing b id
nothing_lost b (Destroy client id) = destroy_loses_nothing b client id
nothing_lost b (SetExpiry client id expires) = set_expiry_loses_nothing b client id expires
nothing_lost b Scavenge = scavenge_loses_nothing b
