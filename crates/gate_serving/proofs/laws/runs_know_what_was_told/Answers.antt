use Rattle.gate_serving.proofs.Knowing.{run_knows, work_places}
use Rattle.gate_serving.proofs.laws.runs_know_what_was_told.Goals as goal

pub returns : goal.returns
returns c =
    record {
      machine = λ door account before after events went run knows. run_knows c.machines_know_what_was_told.ensures.next c.machines_know_what_was_told.ensures.calls
          (record { changes = c.changes_come_of_exchanges.ensures.changes; lacks = c.changes_come_of_exchanges.ensures.lacks }) run knows;
      mail = λ account uploads before asking events came after work knows. work_places c.machines_know_what_was_told.ensures.next work knows;
    }
