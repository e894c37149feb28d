use Rattle.told_mail.proofs.WellLemmas.{well_with_message}
use Rattle.told_mail.proofs.laws.putting_keeps_messages.Goals as goal

pub returns : goal.returns
returns c = λ m n p w. well_with_message m n c.args.message.now p w
