use Rattle.gate_serving.proofs.ServedAnswers.{answers_go_on, answers_serve}
use Rattle.gate_serving.proofs.laws.answers_are_of_the_served_history.Goals as goal

pub returns : goal.returns
returns c =
    record {
      goes = answers_go_on (record { changes = c.changes_draw_no_epoch.ensures.changes; lacks = c.changes_draw_no_epoch.ensures.lacks });
      reads = answers_serve;
    }
