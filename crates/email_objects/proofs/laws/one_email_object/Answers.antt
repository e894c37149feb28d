use Rattle.email_objects.proofs.OneObject as lemmas
use Rattle.email_objects.proofs.laws.one_email_object.Goals as goal

pub returns : goal.returns
returns c = λ row octets asked d e g h. lemmas.one_email_object row octets asked d e g h
