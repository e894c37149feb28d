use Rattle.name_laws.proofs.PartNames as lemmas
use Rattle.name_laws.proofs.laws.part_names_are_clean.Goals as goal

pub returns : goal.returns
returns c = λ fields h i. lemmas.clean_header fields h i
