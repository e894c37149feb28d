use Rattle.gate_changes.proofs.Blaming.{changes_blame, lacks_blame}
use Rattle.gate_changes.proofs.laws.changes_blame_the_link.Goals as goal

pub returns : goal.returns
returns c = record { changes = changes_blame; lacks = lacks_blame }
