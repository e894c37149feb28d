use Rattle.loose_addresses.proofs.LooseLemmas.{one_loose_addresses, one_loose_groups}
use Rattle.loose_addresses.proofs.laws.one_loose_reading.Goals as goal

pub returns : goal.returns
returns c = record {
  addresses = λ one other raw g h. one_loose_addresses raw one other g h;
  groups = λ one other raw g h. one_loose_groups raw one other g h;
}
