use Rattle.gate_changes.proofs.Keeping.{changes_tell}
use Rattle.gate_changes.proofs.laws.changes_tell_served_folders.Goals as goal

pub returns : goal.returns
returns c = changes_tell c.machines_know_what_was_told.ensures.calls c.emails_have_their_messages.ensures
