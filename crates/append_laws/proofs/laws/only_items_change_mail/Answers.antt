use Rattle.append_laws.proofs.Reading.{connecting_reads, fetches_read, rounds_read}
use Rattle.append_laws.proofs.laws.only_items_change_mail.Goals as goal

pub returns-clause-connecting : goal.returns-clause-connecting
returns-clause-connecting c = connecting_reads

pub returns-clause-round : goal.returns-clause-round
returns-clause-round c = rounds_read

pub returns-clause-fetch : goal.returns-clause-fetch
returns-clause-fetch c = fetches_read
