use Rattle.std.proofs.Common.{◌≡◌, true, false, sym, ◌∙◌}
use Rattle.header_tokens.specs.TokenView.{token_view}
use Rattle.header_tokens.specs.Kinds.{has_mark}
use Rattle.mime_fields.proofs.EnclosedLemmas.{no_less, no_greater, more_behind, enclosed_is}
use Rattle.mime_fields.proofs.content_id.enclosed.Goals as goal

pub returns-in_default : goal.returns-in_default
returns-in_default c = λ inner h. c.in_default.ensures.first h.less h.behind_less h.begins

pub returns-then-not-has_mark : goal.returns-then-not-has_mark
returns-then-not-has_mark c =
    let v = token_view c.in-Some.less in
    let e : has_mark 60 v ≡ false = sym c.has_mark.ensures ∙ c.if-not-has_mark.true in
    no_less v c.in-Some.rest.now c.args.text.now c.in-Some.ensures.first e

pub returns-in_default-behind : goal.returns-in_default-behind
returns-in_default-behind c =
    no_greater (token_view c.in-Some.less) c.in-Some.rest.now c.cut.result.1.now c.args.text.now c.in-Some.ensures.first c.cut.ensures.back c.in_default-behind.ensures

pub returns-then-not-are_gaps : goal.returns-then-not-are_gaps
returns-then-not-are_gaps c =
    more_behind (token_view c.in-Some.less) c.in-Some.rest.now c.cut.result.1.now c.in-Some-behind.more.now c.args.text.now c.in-Some.ensures.first c.cut.ensures.back
    c.in-Some-behind.ensures c.if-not-are_gaps.ensures

pub returns : goal.returns
returns c =
    let v = token_view c.in-Some.less in
    let e : has_mark 60 v ≡ true = sym c.has_mark.ensures ∙ c.if-not-has_mark.false in
    enclosed_is v c.in-Some.rest.now c.cut.result.0.now c.cut.result.1.now c.in-Some-behind.more.now c.args.text.now c.in-Some.ensures.first e c.cut.ensures.front
    c.cut.ensures.back c.in-Some-behind.ensures c.if-not-are_gaps.ensures
