use Rattle.gate_changes.proofs.Keeping.{breaks_off}
use Rattle.gate_changes.proofs.laws.broken_calls_hang_up.Goals as goal

pub returns : goal.returns
returns c = breaks_off
