use Rattle.email_creation.proofs.LawLemmas.{appends_lines}
use Rattle.email_creation.proofs.laws.creations_append_lines.Goals as goal

pub returns : goal.returns
returns c = λ g uploads ms ready now word job are checks draws. appends_lines c.message_is_lines.ensures g uploads ms ready now word job are checks draws
