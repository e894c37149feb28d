use Rattle.mail_state.proofs.ValidityLemmas.{one_place}
use Rattle.mail_state.proofs.laws.told_places_stay.Goals as goal

pub returns : goal.returns
returns c = one_place
