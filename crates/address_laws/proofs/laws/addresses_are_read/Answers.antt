use Rattle.address_laws.proofs.ListReading.{addresses_are_read}
use Rattle.address_laws.proofs.laws.addresses_are_read.Goals as goal

pub returns : goal.returns
returns c = addresses_are_read
