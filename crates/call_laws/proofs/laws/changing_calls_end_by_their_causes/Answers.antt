use Rattle.call_laws.proofs.Ends.{fail, others, partly, unavailable}
use Rattle.call_laws.proofs.laws.changing_calls_end_by_their_causes.Goals as goal

pub returns-clause-partly : goal.returns-clause-partly
returns-clause-partly c call items before events after fit changes =
    partly (record {
      partly = λ fits is m life now doing runs. c.calls_end_by_their_causes.ensures.partly _ is m life now doing fits runs;
      unavailable = λ fits is m life now doing runs. c.calls_end_by_their_causes.ensures.unavailable _ is m life now doing fits runs;
      imports = c.imports_append_once.ensures.fit;
    }) call items before events after (λ is m life now doing runs. c.calls_end_by_their_causes.ensures.partly call is m life now doing fit runs) changes

pub returns-clause-unavailable : goal.returns-clause-unavailable
returns-clause-unavailable c call items before events after fit changes =
    unavailable (record {
      partly = λ fits is m life now doing runs. c.calls_end_by_their_causes.ensures.partly _ is m life now doing fits runs;
      unavailable = λ fits is m life now doing runs. c.calls_end_by_their_causes.ensures.unavailable _ is m life now doing fits runs;
      imports = c.imports_append_once.ensures.fit;
    }) call items before events after (λ is m life now doing runs. c.calls_end_by_their_causes.ensures.unavailable call is m life now doing fit runs) changes

pub returns-clause-fail : goal.returns-clause-fail
returns-clause-fail c call items before events after changes = fail call items before events after changes

pub returns-clause-others : goal.returns-clause-others
returns-clause-others c call items before e events after changes = others call items before e events after changes
