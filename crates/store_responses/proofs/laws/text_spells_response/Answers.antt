use Rattle.store_responses.proofs.ResponseSpelling.{text_spelled}
use Rattle.store_responses.proofs.laws.text_spells_response.Goals as goal

pub returns : goal.returns
returns c = text_spelled
