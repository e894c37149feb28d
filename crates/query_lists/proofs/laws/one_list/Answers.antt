use Rattle.query_lists.proofs.MemberLemmas.{one_list}
use Rattle.query_lists.proofs.laws.one_list.Goals as goal

pub returns : goal.returns
returns g c = one_list
