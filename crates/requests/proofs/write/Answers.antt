-- `write` opens the header, and `write_opened` does what is left with the slot found.
use Rattle.std.proofs.lemmas.Result.{err_from_is_err_and}
use Rattle.requests.proofs.Named.{opens}
use Rattle.requests.proofs.Owned.{write_stops, write_goes_on}
use Rattle.requests.proofs.write.Goals as goal

pub returns-in_err-slot : goal.returns-in_err-slot
returns-in_err-slot c =
    let r = err_from_is_err_and c.from_residual.result c.from_residual.ensures.1 in
    rw (r.1, r.2) (write_stops _ _ _ _ _ _ _ _ _ _ c.open.ensures.headers_after _ (c.in_err-slot.ensures.steps _))

-- the header was opened in slot n
pub write_opened-requires-clause-opened : goal.write_opened-requires-clause-opened
write_opened-requires-clause-opened c =
    opens _ _ _ _ _ _ _ c.requires.sound_tables c.requires.outcomes_len.0 c.open.auto.headers c.open.ensures.headers_after

pub returns : goal.returns
returns c = write_goes_on _ _ _ _ _ _ _ _ _ _ c.open.ensures.headers_after _ _ (c.in_ok-slot.ensures.steps _) c.write_opened.ensures
