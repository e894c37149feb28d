use Rattle.gate_changes.proofs.Keeping.{changes_keep, lacks_keep}
use Rattle.gate_changes.proofs.laws.changes_keep_bodies.Goals as goal

pub returns : goal.returns
returns c = record { changes = changes_keep c.kept_bodies_were_told.ensures.calls; lacks = lacks_keep c.kept_bodies_were_told.ensures.calls }
