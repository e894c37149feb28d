use Rattle.std.proofs.Common.{Some, None, ap, ◌∙◌}
use Rattle.serde_json.specs.Data.{Data}
use Rattle.mailbox_checks.proofs.ServedLemmas.{served_is}
use Rattle.mailbox_checks.proofs.properties.served_value.Goals as goal

pub returns-in-None : goal.returns-in-None
returns-in-None c = λ g is. served_is g c.args.given.now.state.now c.args.number None is.state c.in-None.ensures

pub returns-in_ok-whole_mailbox-in-Some : goal.returns-in_ok-whole_mailbox-in-Some
returns-in_ok-whole_mailbox-in-Some c = λ g is.
    ap (λ (d : Data). Some d) c.in_ok-whole_mailbox-in-Some.ensures
    ∙ served_is g c.args.given.now.state.now c.args.number (Some c.in-Some.mailbox.now) is.state c.in-Some.ensures
