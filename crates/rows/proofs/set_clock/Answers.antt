-- `set_clock` writes back the control record that it read, with another clock.
use Rattle.std.proofs.Common.{rules}
use Rattle.rows.proofs.Clock.{clock_put}
use Rattle.rows.proofs.set_clock.Goals as goal

pub returns : goal.returns
returns c = clock_put _ _ _ _ (search rules) c.control-c.ensures c.put_control.ensures
