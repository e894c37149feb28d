use Rattle.std.proofs.Common.{Ok}
use Rattle.store_causes.proofs.Hiding.{checks_hide}
use Rattle.store_causes.proofs.laws.beginnings_hide_the_password.Goals as goal

pub returns : goal.returns
returns c = λ user password checked events told before after checks some is. checks_hide user password (Ok checked) events checks told before after some is
