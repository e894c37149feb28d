use Rattle.email_get.proofs.OneAnswer as lemmas
use Rattle.email_get.proofs.laws.one_parse_answer.Goals as goal

pub returns : goal.returns
returns c = λ h uploads d asks more also later r s f g same. lemmas.one_parse_answer h.numbered.rows uploads d asks more also later r s f g same
