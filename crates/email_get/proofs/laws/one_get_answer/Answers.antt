use Rattle.served_types.specs.States.{type_state}
use Rattle.email_get.proofs.OneAnswer as lemmas
use Rattle.email_get.proofs.laws.one_get_answer.Goals as goal

pub returns : goal.returns
returns c = λ h d asks more also later r s f g same. lemmas.one_get_answer (type_state h h.emails) h.numbered.rows d asks more also later r s f g same
