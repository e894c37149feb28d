use Rattle.gate_machine.proofs.Sources.{knows_calls, knows_first, knows_on_way}
use Rattle.gate_machine.proofs.laws.machines_know_what_was_told.Goals as goal

pub returns : goal.returns
returns c = record { first = knows_first; next = knows_on_way c.reading_tells_as_before.ensures; calls = knows_calls c.reading_tells_as_before.ensures }
