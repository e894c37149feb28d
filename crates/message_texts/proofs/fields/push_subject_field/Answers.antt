use Rattle.std.proofs.Common.{codes}
use Rattle.std.proofs.lemmas.Result.{on_ok_weaker}
use Rattle.message_lines.specs.Subjects.{IsSubject}
use Rattle.message_texts.proofs.FieldLemmas.{value_added}
use Rattle.message_texts.proofs.fields.push_subject_field.Goals as goal

pub returns-in_ok-push_subject-in-Some : goal.returns-in_ok-push_subject-in-Some
returns-in_ok-push_subject-in-Some c =
    let begun = c.in_ok-line-in-Some in
    let laid = c.in_ok-push_subject-in-Some in
    on_ok_weaker c.end_line.result
    (λ ended. value_added IsSubject (codes "Subject") c.args.text.now c.begin_field.new.text c.push_subject.new.text c.end_line.new.text begun.line laid.field-0 c.args.subject.now
    c.in-Some.subject c.as_str.result.now c.in-Some.is c.as_str.ensures begun.ensures.0 begun.ensures.1 laid.ensures ended) c.end_line.ensures
