use Rattle.header_addresses.proofs.FormLemmas as lemmas
use Rattle.header_addresses.proofs.laws.one_reading_of_addresses.Goals as goal

pub returns-clause-addresses : goal.returns-clause-addresses
returns-clause-addresses c = λ one other raw g h. lemmas.one_addresses raw one other g h

pub returns-clause-groups : goal.returns-clause-groups
returns-clause-groups c = λ one other raw g h. lemmas.one_groups raw one other g h
