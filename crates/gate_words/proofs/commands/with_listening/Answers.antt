use Rattle.std.proofs.Common.{rules, ◌≡◌, codes, true, false, ap, ap₂, ◌∙◌}
use Rattle.std.proofs.lemmas.Result.{IfOk-weaker}
use Rattle.clap.specs.Words.{app_of, rule_of, with_rule}
use Rattle.gate_words.specs.reading.Commands.{option_rule}
use Rattle.gate_words.proofs.commands.with_listening.Goals as goal

pub returns : goal.returns
returns c =
    let listen : rule_of c.option_with-listen.result ≡ option_rule true (codes "listen") = search rules in
    let connections : rule_of c.option_with-connections.result ≡ option_rule false (codes "connections") = search rules in
    let listening = c.in_ok-listening.ensures.shape c.option_with-listen.ensures.local ∙ ap (with_rule (app_of c.args.command)) listen in
    IfOk-weaker c.arg-2.result _ _ (λ command adds. adds.shape c.option_with-connections.ensures.local ∙ ap₂ with_rule listening connections) c.arg-2.ensures
