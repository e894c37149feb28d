use Rattle.header_addresses.proofs.AddresseeLemmas as lemmas
use Rattle.header_addresses.proofs.laws.one_address_list.Goals as goal

pub returns : goal.returns
returns c = λ one other t g h. lemmas.one_list one other t g h
