use Rattle.std.proofs.lemmas.Result.{IfOk-weaker, MatchResult-at_err}
use Rattle.std.proofs.Common.{List, ℕ, IsUtf8, sym, subst, ◌∙◌}
use Rattle.message_lines.proofs.SubjectLemmas.{shown_utf8, plain_subject, encoded_subject}
use Rattle.message_lines.proofs.subjects.push_subject.Goals as goal

pub returns-then-is_plain : goal.returns-then-is_plain
returns-then-is_plain c =
    IfOk-weaker c.push_piece.result _ _
    (λ after a. plain_subject c.args.line after c.args.text.now c.push_piece.new.text c.args.subject.now c.as_slice.result.now c.as_slice-then-is_plain.result.now
    (c.as_slice.ensures.value ∙ c.in_ok-shown.ensures) (c.as_slice-then-is_plain.ensures.value ∙ c.in_ok-shown.ensures) (sym c.is_plain.ensures ∙ c.if-is_plain.true) a) c.push_piece.ensures

pub unreachable-requires : goal.unreachable-requires
unreachable-requires c =
    (MatchResult-at_err _ _ c.in_default.field-0 c.in_default.is c.from_utf8.ensures.cases).0
    (subst (λ (t : List ℕ). IsUtf8 t) (sym (c.as_slice-2.ensures.value ∙ c.in_ok-shown.ensures)) (shown_utf8 c.args.subject.now c.utf8.subject))

pub returns : goal.returns
returns c =
    IfOk-weaker c.push_words.result _ _
    (λ after w. encoded_subject c.args.line after c.args.text.now c.push_words.new.text c.args.subject.now c.as_slice.result.now c.in-Ok.shown.now
    (c.as_slice.ensures.value ∙ c.in_ok-shown.ensures) (c.in-Ok.ensures.cases.0 ∙ c.as_slice-2.ensures.value ∙ c.in_ok-shown.ensures) (sym c.is_plain.ensures ∙ c.if-is_plain.false) w)
    c.push_words.ensures
