use Rattle.std.proofs.Common.{ap, sym, ◌∙◌, subst}
use Rattle.text_words.specs.Cuts.{front, back}
use Rattle.http_service.specs.Fields.{is_space, IsScheme, IsBearer}
use Rattle.http_service.proofs.FieldLemmas.{empty_is, some_is, not_another_scheme, not_without_gap, is_bearer}
use Rattle.http_service.proofs.fields.bearer_token.Goals as goal

pub returns-then-not-same_text : goal.returns-then-not-same_text
returns-then-not-same_text c = λ token b.
    not_another_scheme c.args.value.now token b (λ so.
    let is = c.same_text.ensures.same.1 (subst IsScheme (sym c.split_at.ensures.front) so) in
    let f = c.if-not-same_text.true in
    absurd cc)

pub returns-then-is_empty : goal.returns-then-is_empty
returns-then-is_empty c = λ token b.
    let none = empty_is c.cut.result.0.now c.is_empty.result c.is_empty.ensures c.if-is_empty.true in
    not_without_gap c.args.value.now token b (sym (c.cut.ensures.front ∙ ap (front is_space) c.split_at.ensures.back) ∙ none)

pub returns-else-is_empty : goal.returns-else-is_empty
returns-else-is_empty c =
    let f = c.if-not-same_text.false in
    let same = c.same_text.ensures.same.0 (search f) in
    let gap = c.cut.ensures.front ∙ ap (front is_space) c.split_at.ensures.back in
    let token = c.cut.ensures.back ∙ ap (back is_space) c.split_at.ensures.back in
    subst (IsBearer c.args.value.now) (sym token) (is_bearer c.args.value.now (subst IsScheme c.split_at.ensures.front same) (λ none.
    some_is c.cut.result.0.now c.is_empty.result c.is_empty.ensures c.if-is_empty.false (gap ∙ none)))
