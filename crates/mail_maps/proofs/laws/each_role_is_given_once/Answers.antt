use Rattle.mail_maps.proofs.OnceLaws.{one_role}
use Rattle.mail_maps.proofs.laws.each_role_is_given_once.Goals as goal

pub returns : goal.returns
returns c = one_role
