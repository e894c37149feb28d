use Rattle.header_dates.proofs.DateLemmas as lemmas
use Rattle.header_dates.proofs.laws.one_date.Goals as goal

pub returns : goal.returns
returns c = λ raw x y g h. lemmas.one_date raw x y g h
