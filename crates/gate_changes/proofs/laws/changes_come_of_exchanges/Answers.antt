use Rattle.gate_changes.proofs.Keeping.{changes_know, lacks_know}
use Rattle.gate_changes.proofs.laws.changes_come_of_exchanges.Goals as goal

pub returns : goal.returns
returns c = record { changes = changes_know c.machines_know_what_was_told.ensures.calls; lacks = lacks_know c.machines_know_what_was_told.ensures.calls }
