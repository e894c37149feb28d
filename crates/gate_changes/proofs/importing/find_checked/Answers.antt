use Rattle.std.proofs.Common.{refl}
use Rattle.gate_changes.proofs.importing.find_checked.Goals as goal

pub returns-in-Ok-Ok : goal.returns-in-Ok-Ok
returns-in-Ok-Ok g c = rw (c.in-Ok-Ok.is, c.in-Ok-Ok.field-0-is) c.find_octets.ensures

pub returns-in-Ok-Err : goal.returns-in-Ok-Err
returns-in-Ok-Err g c = rw (c.in-Ok-Err.is, c.in-Ok-Err.field-0-is) (refl, refl)

pub returns-in-Err : goal.returns-in-Err
returns-in-Err g c = rw c.in-Err.is (refl, refl)
