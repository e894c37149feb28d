use Rattle.email_import.proofs.LawLemmas as lemmas
use Rattle.email_import.proofs.laws.imports_are_checked_one_way.Goals as goal

pub returns : goal.returns
returns c = λ g ms one other a b. lemmas.same g ms a b
