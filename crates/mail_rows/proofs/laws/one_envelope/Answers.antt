use Rattle.mail_rows.proofs.OneTake.{one_envelope}
use Rattle.mail_rows.proofs.laws.one_envelope.Goals as goal

pub returns : goal.returns
returns c = one_envelope
