use Rattle.mail_header.proofs.BracketLemmas as lemmas
use Rattle.mail_header.proofs.laws.one_list_of_pieces.Goals as goal

pub returns : goal.returns
returns c = λ m n b h k. lemmas.one_names m n b h k
