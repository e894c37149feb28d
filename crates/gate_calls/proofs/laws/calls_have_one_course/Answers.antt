use Rattle.gate_calls.proofs.OneAnswer.{one_result}
use Rattle.gate_calls.proofs.OneChange.{one_set}
use Rattle.gate_calls.proofs.OneCourse.{one_course}
use Rattle.gate_calls.proofs.laws.calls_have_one_course.Goals as goal

pub returns : goal.returns
returns c =
    one_course
    (one_result c.one_changes_answer.ensures c.one_get_answer.ensures c.one_parse_answer.ensures c.one_query_answer.ensures.emails
    c.one_query_answer.ensures.mailboxes c.one_query_changes_answer.ensures.emails c.one_query_changes_answer.ensures.mailboxes)
    (one_set c.items_have_one_order.ensures)
