use Rattle.told_mail.proofs.NameLemmas.{named_only}
use Rattle.told_mail.proofs.mirror.Mirror.one_named.Goals as goal

pub returns : goal.returns
returns c = rw (← c.self.view_is) (named_only _ c.self.inside.folders.items c.self.invariant.names c.self.invariant.index.numbers)
