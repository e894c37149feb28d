use Rattle.mail_maps.proofs.ParentLaws.{parent_is, none_is}
use Rattle.mail_maps.proofs.laws.parents_are_longest.Goals as goal

pub returns : goal.returns
returns c = record { some = parent_is; none = none_is }
