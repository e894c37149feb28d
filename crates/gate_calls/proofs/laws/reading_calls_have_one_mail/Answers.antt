use Rattle.gate_calls.proofs.Threading.{apart_of, joined, lacks_apart, lacks_over_one}
use Rattle.gate_calls.proofs.laws.reading_calls_have_one_mail.Goals as goal

pub returns : goal.returns
returns c =
    record {
      joined = λ uses uploads before after calls responses asks events read does. joined read does;
      apart = λ uses uploads before after calls responses asks events answered. apart_of answered;
      lacks = λ uses uploads before calls events after read lacks. lacks_over_one read lacks;
      lacks_apart = λ uses uploads before calls events after lacks. lacks_apart before lacks;
    }
