use Rattle.mail_rows.proofs.OneTake.{one_take}
use Rattle.mail_rows.proofs.laws.one_take.Goals as goal

pub returns : goal.returns
returns c = one_take
