use Rattle.std.proofs.Common.{ap, ◌∙◌}
use Rattle.query_conditions.specs.declared.email_condition.RecordCondition.{RecordCondition}
use Rattle.query_arguments.specs.FilterTrees.{filter_tree}
use Rattle.query_arguments.specs.declared.email_condition.EmailCondition.TheVariants.{Record}
use Rattle.query_core.proofs.FilterLemmas.{mailbox_asked}
use Rattle.query_core.proofs.email_list.only_mailbox.Goals as goal

pub returns-in-Some-Record-InMailbox : goal.returns-in-Some-Record-InMailbox
returns-in-Some-Record-InMailbox c =
    let found = c.in-Some-Record-InMailbox in
    mailbox_asked (filter_tree c.args.filter.now) found.field-0.now found.mailbox found.ensures (found.field-0-is ∙ ap (λ (r : RecordCondition). Record r) found.field-0-0-is)
