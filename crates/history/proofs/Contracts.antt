-- What a caller learns from a border's contract is what a history allows: `Learnt` is the contract as the prover hands it to a caller, a the arguments, r the result,
-- s the buffers at exit. That numbers are within their types is what the language says of every parameter.
-- Assumes nothing.
use Prim.Native.Nat.{◌^◌, ◌<◌}
use mathlib.Core.List.{[]}
use contract.Lifetimes.{Lfts}
use Rattle.paper.specs.Tables.{standard}
use Rattle.paper.specs.Answers.{Create, Write, Read, Info, Destroy, SetExpiry, Scavenge, an_id, facts, counts, no_gift, report}
use Rattle.service.proofs.format.Reads as format
use Rattle.service.proofs.create.Reads as create
use Rattle.service.proofs.write.Reads as write
use Rattle.service.proofs.read.Reads as read
use Rattle.service.proofs.info.Reads as info
use Rattle.service.proofs.destroy.Reads as destroy
use Rattle.service.proofs.set_expiry.Reads as set-expiry
use Rattle.service.proofs.scavenge.Reads as scavenge
use Rattle.history.specs.History.{formats, asks, Given, Allowed}

pub format_allowed : (κs : Lfts 2) (a r s : _) → format.Learnt κs a r s
    → Allowed standard a.0.now a.1.0.now (record { asked = formats; report = report no_gift r; page = []; headers = s.0.now; pages = s.1.0.now }) formats
format_allowed κs a r s p = p

pub create_allowed : (κs : Lfts 4) (a r s : _) → create.Learnt κs a r s → a.1.1.1.0 < 2 ^ 32 → Given (Create a.1.1.1.1.0 a.1.1.1.1.1.0 a.1.1.1.1.1.1.0.now a.1.1.1.1.1.1.1.0)
    → Allowed standard a.0.now a.1.0.now (record { asked = asks a.1.1.1.0 a.1.1.0.now (Create a.1.1.1.1.0 a.1.1.1.1.1.0 a.1.1.1.1.1.1.0.now a.1.1.1.1.1.1.1.0); report = report an_id r; page = a.1.1.1.1.1.1.0.now; headers = s.0.now; pages = s.1.0.now })
    (asks a.1.1.1.0 a.1.1.0.now (Create a.1.1.1.1.0 a.1.1.1.1.1.0 a.1.1.1.1.1.1.0.now a.1.1.1.1.1.1.1.0))
create_allowed κs a r s p t g = (t, g, p)

pub write_allowed : (κs : Lfts 4) (a r s : _) → write.Learnt κs a r s → a.1.1.1.0 < 2 ^ 32 → Given (Write a.1.1.1.1.0 a.1.1.1.1.1.0 a.1.1.1.1.1.1.0 a.1.1.1.1.1.1.1.0.now)
    → Allowed standard a.0.now a.1.0.now (record { asked = asks a.1.1.1.0 a.1.1.0.now (Write a.1.1.1.1.0 a.1.1.1.1.1.0 a.1.1.1.1.1.1.0 a.1.1.1.1.1.1.1.0.now); report = report an_id r; page = a.1.1.1.1.1.1.1.0.now; headers = s.0.now; pages = s.1.0.now })
    (asks a.1.1.1.0 a.1.1.0.now (Write a.1.1.1.1.0 a.1.1.1.1.1.0 a.1.1.1.1.1.1.0 a.1.1.1.1.1.1.1.0.now))
write_allowed κs a r s p t g = (t, g, p)

pub read_allowed : (κs : Lfts 4) (a r s : _) → read.Learnt κs a r s → a.1.1.1.0 < 2 ^ 32 → Given (Read a.1.1.1.1.0 a.1.1.1.1.1.0 a.1.1.1.1.1.1.0.now)
    → Allowed standard a.0.now a.1.0.now (record { asked = asks a.1.1.1.0 a.1.1.0.now (Read a.1.1.1.1.0 a.1.1.1.1.1.0 a.1.1.1.1.1.1.0.now); report = report no_gift r; page = s.1.1.1.1.1.1.0.now; headers = s.0.now; pages = a.1.0.now })
    (asks a.1.1.1.0 a.1.1.0.now (Read a.1.1.1.1.0 a.1.1.1.1.1.0 a.1.1.1.1.1.1.0.now))
read_allowed κs a r s p t g = (t, g, p)

pub info_allowed : (κs : Lfts 3) (a r s : _) → info.Learnt κs a r s → a.1.1.1.0 < 2 ^ 32 → Given (Info a.1.1.1.1.0)
    → Allowed standard a.0.now a.1.0.now (record { asked = asks a.1.1.1.0 a.1.1.0.now (Info a.1.1.1.1.0); report = report facts r; page = []; headers = s.0.now; pages = a.1.0.now })
    (asks a.1.1.1.0 a.1.1.0.now (Info a.1.1.1.1.0))
info_allowed κs a r s p t g = (t, g, p)

pub destroy_allowed : (κs : Lfts 3) (a r s : _) → destroy.Learnt κs a r s → a.1.1.1.0 < 2 ^ 32 → Given (Destroy a.1.1.1.1.0 a.1.1.1.1.1.0)
    → Allowed standard a.0.now a.1.0.now (record { asked = asks a.1.1.1.0 a.1.1.0.now (Destroy a.1.1.1.1.0 a.1.1.1.1.1.0); report = report no_gift r; page = []; headers = s.0.now; pages = s.1.0.now })
    (asks a.1.1.1.0 a.1.1.0.now (Destroy a.1.1.1.1.0 a.1.1.1.1.1.0))
destroy_allowed κs a r s p t g = (t, g, p)

pub set_expiry_allowed : (κs : Lfts 3) (a r s : _) → set-expiry.Learnt κs a r s → a.1.1.1.0 < 2 ^ 32 → Given (SetExpiry a.1.1.1.1.0 a.1.1.1.1.1.0 a.1.1.1.1.1.1.0)
    → Allowed standard a.0.now a.1.0.now (record { asked = asks a.1.1.1.0 a.1.1.0.now (SetExpiry a.1.1.1.1.0 a.1.1.1.1.1.0 a.1.1.1.1.1.1.0); report = report an_id r; page = []; headers = s.0.now; pages = s.1.0.now })
    (asks a.1.1.1.0 a.1.1.0.now (SetExpiry a.1.1.1.1.0 a.1.1.1.1.1.0 a.1.1.1.1.1.1.0))
set_expiry_allowed κs a r s p t g = (t, g, p)

pub scavenge_allowed : (κs : Lfts 3) (a r s : _) → scavenge.Learnt κs a r s → a.1.1.1.0 < 2 ^ 32 → Given (Scavenge)
    → Allowed standard a.0.now a.1.0.now (record { asked = asks a.1.1.1.0 a.1.1.0.now (Scavenge); report = report counts r; page = []; headers = s.0.now; pages = s.1.0.now })
    (asks a.1.1.1.0 a.1.1.0.now (Scavenge))
scavenge_allowed κs a r s p t g = (t, g, p)
