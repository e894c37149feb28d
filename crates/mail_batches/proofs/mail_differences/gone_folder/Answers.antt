use Rattle.std.proofs.Common.{refl, ap, sym}
use Rattle.std.specs.Prelude.{is_some}
use Rattle.mail_batches.proofs.mail_differences.gone_folder.Goals as goal

pub returns-in-Some : goal.returns-in-Some
returns-in-Some c = ap is_some (sym c.in-Some.ensures)

pub returns-in-None : goal.returns-in-None
returns-in-None c = (refl, sym c.in-None.ensures)
