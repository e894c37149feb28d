use Rattle.gate_serving.proofs.Going.{run_kept}
use Rattle.gate_serving.proofs.laws.histories_go_on.Goals as goal

pub returns : goal.returns
returns c = λ door account events before after went run. run_kept c.requests_keep_history.ensures c.calls_keep_history.ensures
    (record { changes = c.changes_keep_history.ensures.changes; lacks = c.changes_keep_history.ensures.lacks }) run
