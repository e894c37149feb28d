use Rattle.message_laws.proofs.SubjectReading.{subject_is_read}
use Rattle.message_laws.proofs.laws.subject_is_read.Goals as goal

pub returns : goal.returns
returns c = subject_is_read
