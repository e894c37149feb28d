use Rattle.creation_laws.proofs.OneThing.{one_thing}
use Rattle.creation_laws.proofs.laws.creations_send_one_thing.Goals as goal

pub returns : goal.returns
returns c = one_thing c.one_message_text.ensures
