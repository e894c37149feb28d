use Rattle.mail_header.proofs.FieldLemmas as lemmas
use Rattle.mail_header.proofs.laws.one_header.Goals as goal

pub returns-clause-fields : goal.returns-clause-fields
returns-clause-fields c = λ f g m n b h k. (lemmas.one_header f g m n b h k).0

pub returns-clause-end : goal.returns-clause-end
returns-clause-end c = λ f g m n b h k. (lemmas.one_header f g m n b h k).1
