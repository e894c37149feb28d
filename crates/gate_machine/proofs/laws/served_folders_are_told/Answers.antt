use Rattle.gate_machine.proofs.ServedFolders.{prepared_tells, calls_tell, emails_begin}
use Rattle.gate_machine.proofs.laws.served_folders_are_told.Goals as goal

pub returns-clause-round : goal.returns-clause-round
returns-clause-round c = prepared_tells c.emails_have_their_messages.ensures c.reading_tells_as_before.ensures

pub returns-clause-calls : goal.returns-clause-calls
returns-clause-calls c = calls_tell c.fetches_keep_folders.ensures.stay

pub returns-clause-begin : goal.returns-clause-begin
returns-clause-begin c = emails_begin c.fetches_keep_folders.ensures.begin
