use Rattle.email_creation.proofs.LawLemmas.{same}
use Rattle.email_creation.proofs.laws.creations_are_checked_one_way.Goals as goal

pub returns-clause-refused : goal.returns-clause-refused
returns-clause-refused c = λ g uploads ms one other a b. same c.properties_are_read_one_way.ensures.uploads g uploads ms a b

pub returns-clause-passed : goal.returns-clause-passed
returns-clause-passed c = λ g uploads ms ready e a b. same c.properties_are_read_one_way.ensures.uploads g uploads ms a b
