use Rattle.std.proofs.Common.{refl}
use Rattle.mail_maps.proofs.header.base_of.Goals as goal

pub returns : goal.returns
returns c = (c.in_ok-base.ensures c.in_ok-base.base).1 refl
