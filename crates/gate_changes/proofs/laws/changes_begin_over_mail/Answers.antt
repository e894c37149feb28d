use Rattle.gate_changes.proofs.Blaming.{changes_begin, changes_end, lacks_begin, lacks_end}
use Rattle.gate_changes.proofs.laws.changes_begin_over_mail.Goals as goal

pub returns : goal.returns
returns c = record { begun = changes_begin; ended = changes_end; lacks_begun = lacks_begin; lacks_ended = lacks_end }
