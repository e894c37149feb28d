use Rattle.draft_reading.proofs.OneLemmas.{one_first, not_both}
use Rattle.draft_reading.proofs.laws.properties_are_read_one_way.Goals as goal

pub returns-clause-first : goal.returns-clause-first
returns-clause-first c = λ all one other a b. one_first all one other a b

pub returns-clause-refused : goal.returns-clause-refused
returns-clause-refused c = λ all key a none. a.refused.not_allowed (none key a.refused.value a.refused.there)

pub returns-clause-uploads : goal.returns-clause-uploads
returns-clause-uploads c = λ uploads all ids d w is. not_both uploads all ids d w is
