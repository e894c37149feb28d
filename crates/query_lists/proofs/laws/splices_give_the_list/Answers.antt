use Rattle.query_lists.proofs.SpliceLemmas.{splice_is}
use Rattle.query_lists.proofs.laws.splices_give_the_list.Goals as goal

pub returns : goal.returns
returns c = splice_is
