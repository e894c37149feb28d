use Rattle.gate_changes.proofs.Blaming.{lacks_forget}
use Rattle.gate_changes.proofs.Epochs.{changes_stay}
use Rattle.gate_changes.proofs.laws.changes_draw_no_epoch.Goals as goal

pub returns : goal.returns
returns c = record { changes = changes_stay; lacks = lacks_forget }
