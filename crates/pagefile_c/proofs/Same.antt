-- Each export promises C what `pagefile`'s function of its name promises, so what is unique of that is unique of the export: `Learnt` is a contract
-- as a caller may use it, a the arguments, r the answer, s the buffers at exit.
-- Assumes nothing.
use contract.Lifetimes.{Lfts}
use Rattle.pagefile.proofs.pagefile_format.Reads as format
use Rattle.pagefile_c.proofs.pagefile_format.Reads as exported_format
use Rattle.pagefile.proofs.pagefile_create.Reads as create
use Rattle.pagefile_c.proofs.pagefile_create.Reads as exported_create
use Rattle.pagefile.proofs.pagefile_write.Reads as write
use Rattle.pagefile_c.proofs.pagefile_write.Reads as exported_write
use Rattle.pagefile.proofs.pagefile_read.Reads as read
use Rattle.pagefile_c.proofs.pagefile_read.Reads as exported_read
use Rattle.pagefile.proofs.pagefile_info.Reads as info
use Rattle.pagefile_c.proofs.pagefile_info.Reads as exported_info
use Rattle.pagefile.proofs.pagefile_destroy.Reads as destroy
use Rattle.pagefile_c.proofs.pagefile_destroy.Reads as exported_destroy
use Rattle.pagefile.proofs.pagefile_set_expiry.Reads as set_expiry
use Rattle.pagefile_c.proofs.pagefile_set_expiry.Reads as exported_set_expiry
use Rattle.pagefile.proofs.pagefile_scavenge.Reads as scavenge
use Rattle.pagefile_c.proofs.pagefile_scavenge.Reads as exported_scavenge
use Rattle.pagefile.proofs.pagefile_look.Reads as look
use Rattle.pagefile_c.proofs.pagefile_look.Reads as exported_look

pub format_same : (κs : Lfts 2) (a r s : _) → exported_format.Learnt κs a r s → format.Learnt κs a r s
format_same κs a r s p = p

pub create_same : (κs : Lfts 4) (a r s : _) → exported_create.Learnt κs a r s → create.Learnt κs a r s
create_same κs a r s p = p

pub write_same : (κs : Lfts 4) (a r s : _) → exported_write.Learnt κs a r s → write.Learnt κs a r s
write_same κs a r s p = p

pub read_same : (κs : Lfts 4) (a r s : _) → exported_read.Learnt κs a r s → read.Learnt κs a r s
read_same κs a r s p = p

pub info_same : (κs : Lfts 3) (a r s : _) → exported_info.Learnt κs a r s → info.Learnt κs a r s
info_same κs a r s p = p

pub destroy_same : (κs : Lfts 3) (a r s : _) → exported_destroy.Learnt κs a r s → destroy.Learnt κs a r s
destroy_same κs a r s p = p

pub set_expiry_same : (κs : Lfts 3) (a r s : _) → exported_set_expiry.Learnt κs a r s → set_expiry.Learnt κs a r s
set_expiry_same κs a r s p = p

pub scavenge_same : (κs : Lfts 3) (a r s : _) → exported_scavenge.Learnt κs a r s → scavenge.Learnt κs a r s
scavenge_same κs a r s p = p

pub look_same : (κs : Lfts 2) (a r s : _) → exported_look.Learnt κs a r s → look.Learnt κs a r s
look_same κs a r s p = p
