use Rattle.message_laws.proofs.BodyReading.{body_is_read, part_is_read}
use Rattle.message_laws.proofs.laws.body_is_read.Goals as goal

pub returns-clause-alone : goal.returns-clause-alone
returns-clause-alone c = body_is_read

pub returns-clause-in_multipart : goal.returns-clause-in_multipart
returns-clause-in_multipart c = part_is_read
