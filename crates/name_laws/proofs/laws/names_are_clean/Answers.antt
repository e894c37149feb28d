use Rattle.name_laws.proofs.AddressNames as lemmas
use Rattle.name_laws.proofs.laws.names_are_clean.Goals as goal

pub returns-clause-addresses : goal.returns-clause-addresses
returns-clause-addresses c = λ list raw h. lemmas.clean_addresses raw list h

pub returns-clause-groups : goal.returns-clause-groups
returns-clause-groups c = λ list raw h. lemmas.clean_groups raw list h
