use Rattle.email_creation.proofs.LawLemmas.{appends_once, is_fit, makes_nothing}
use Rattle.email_creation.proofs.laws.creations_append_once.Goals as goal

pub returns-clause-once : goal.returns-clause-once
returns-clause-once c = λ ready now word job is. appends_once ready now word is

pub returns-clause-fit : goal.returns-clause-fit
returns-clause-fit c = λ ready now word job is. is_fit ready now word is

pub returns-clause-makes_nothing : goal.returns-clause-makes_nothing
returns-clause-makes_nothing c = λ ready now word job is. makes_nothing ready now word is
