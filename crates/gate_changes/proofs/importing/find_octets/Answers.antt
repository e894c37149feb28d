use Rattle.std.proofs.Common.{Ok, Err, refl}
use Rattle.gate_changes.proofs.importing.find_octets.Goals as goal

pub returns-in-Ok-Ok : goal.returns-in-Ok-Ok
returns-in-Ok-Ok g c = (Ok (Ok c.in-Ok-Ok.message), rw c.in-Ok-Ok.field-0-is at c.in-Ok-Ok.ensures, refl)

pub returns-in-Ok-Err : goal.returns-in-Ok-Err
returns-in-Ok-Err g c = (Ok (Err c.in-Ok-Err.error), rw c.in-Ok-Err.field-0-is at c.in-Ok-Err.ensures, refl)

pub returns-in-Err : goal.returns-in-Err
returns-in-Err g c = (Err c.in-Err.why, c.in-Err.ensures, refl)
