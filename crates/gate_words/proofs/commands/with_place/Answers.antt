use Rattle.std.proofs.Common.{rules, ◌≡◌, codes, true, ap₂, ◌∙◌}
use Rattle.std.proofs.lemmas.Result.{IfOk-weaker}
use Rattle.clap.specs.Words.{rule_of, with_rule}
use Rattle.gate_words.specs.reading.Commands.{option_rule}
use Rattle.gate_words.proofs.commands.with_place.Goals as goal

pub returns : goal.returns
returns c =
    let base : rule_of c.option_with-base.result ≡ option_rule true (codes "base") = search rules in
    IfOk-weaker c.arg.result _ _ (λ command adds. adds.shape c.option_with-base.ensures.local ∙ ap₂ with_rule c.in_ok-account.ensures base) c.arg.ensures
