use Rattle.std.proofs.Common.{ap, ◌∙◌}
use Rattle.std.specs.Option.{option_copied}
use Rattle.std.proofs.lemmas.Result.{IfOk-weaker}
use Rattle.serde_json.specs.Written.{compact_text, has_float}
use Rattle.jmap_core.proofs.Whole.{whole_response}
use Rattle.jmap_core.proofs.response.response_text.Goals as goal

pub returns : goal.returns
returns c =
    let is = c.in_ok-response.ensures in
    let whole = ap has_float is ∙ whole_response c.args.answers.now (option_copied c.args.created) c.args.session.now c.requires in
    IfOk-weaker c.to_string.result _ _ (λ s h. h whole ∙ ap compact_text is) c.to_string.ensures.text
