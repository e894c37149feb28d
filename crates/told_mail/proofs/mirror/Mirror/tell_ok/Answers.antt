use Rattle.told_mail.proofs.NumberLemmas.{numbers_on}
use Rattle.told_mail.proofs.mirror.Mirror.tell_ok.Goals as goal

pub returns-in_ok-tell_selected-in-List-clause-numbers : goal.returns-in_ok-tell_selected-in-List-clause-numbers
returns-in_ok-tell_selected-in-List-clause-numbers c = numbers_on _ _ _ c.tell_selected.ensures.numbers c.tell_list.ensures.numbers
