use Rattle.mail_maps.proofs.OnceLaws.{one_parent}
use Rattle.mail_maps.proofs.laws.a_folder_has_one_parent.Goals as goal

pub returns : goal.returns
returns c = one_parent
