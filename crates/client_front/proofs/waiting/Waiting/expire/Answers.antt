use Rattle.client_front.proofs.Late.{fewer-awaited}
use Rattle.client_front.specs.Waiting.{NoneLate, OneLate, held}
use Rattle.client_front.proofs.waiting.Waiting.expire.Goals as goal

pub late-init : goal.late-init
late-init g c = NoneLate

pub late-preserved : goal.late-preserved
late-preserved g c = OneLate c.late.invariant c.end_wait.ensures

pub late-smaller : goal.late-smaller
late-smaller g c = fewer-awaited g.S.ClientStream.shows g.S.ClientStream.closes c.args.now (held c.late.self) (held c.end_wait.new.self) c.end_wait.ensures
