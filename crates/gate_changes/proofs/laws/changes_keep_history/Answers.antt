use Rattle.gate_changes.proofs.Keeping.{changes_go, lacks_go}
use Rattle.gate_changes.proofs.laws.changes_keep_history.Goals as goal

pub returns : goal.returns
returns c = record { changes = changes_go; lacks = lacks_go }
