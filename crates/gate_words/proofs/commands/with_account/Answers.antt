use Rattle.std.proofs.Common.{rules, ◌≡◌, codes, true, ap, ap₂, ◌∙◌}
use Rattle.std.proofs.lemmas.Result.{IfOk-weaker}
use Rattle.clap.specs.Words.{app_of, rule_of, with_rule}
use Rattle.gate_words.specs.reading.Commands.{option_rule}
use Rattle.gate_words.proofs.commands.with_account.Goals as goal

pub returns : goal.returns
returns c =
    let store : rule_of c.option_with-store.result ≡ option_rule true (codes "store") = search rules in
    let user : rule_of c.option_with-user.result ≡ option_rule true (codes "user") = search rules in
    let stored = c.in_ok-stored.ensures.shape c.option_with-store.ensures.local ∙ ap (with_rule (app_of c.args.command)) store in
    IfOk-weaker c.arg-2.result _ _ (λ command adds. adds.shape c.option_with-user.ensures.local ∙ ap₂ with_rule stored user) c.arg-2.ensures
