use Rattle.email_objects.proofs.OneObject as lemmas
use Rattle.email_objects.proofs.laws.one_parsed_object.Goals as goal

pub returns : goal.returns
returns c = λ blob_id m asked d e g h. lemmas.one_parsed_object blob_id m asked d e g h
