use Rattle.std.proofs.Common.{ap}
use Rattle.client_streams.specs.Kept.{Kept}
use Rattle.client_front.proofs.serving.Serving.send.Goals as goal

-- none is accepted, and what was kept is dropped
pub returns-in_default-clause-nothing : goal.returns-in_default-clause-nothing
returns-in_default-clause-nothing g c = (
  record { serving = c.give_or_keep.new.self; kept = c.give_or_keep.new.kept },
  c.in_default.ensures.nothing,
  ap (λ (k : Kept). record { serving = c.give_or_keep.new.self; kept = k }) c.clear.ensures,
)
