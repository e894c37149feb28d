use Rattle.set_calls.proofs.Appends.{call_appends}
use Rattle.set_calls.proofs.laws.no_append_is_repeated.Goals as goal

pub returns : goal.returns
returns x c items before after result events = call_appends x.no_append_is_repeated.ensures x.exchanges_are_answers.ensures c items before after result events
