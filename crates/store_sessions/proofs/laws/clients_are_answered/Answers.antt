use Rattle.store_sessions.proofs.Answered.{client_answered}
use Rattle.store_sessions.proofs.laws.clients_are_answered.Goals as goal

pub returns : goal.returns
returns c = λ s t events serves. client_answered c.answer_stays.ensures s t events serves
