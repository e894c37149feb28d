use Rattle.mime_tree.proofs.MessageLemmas.{whole_message, message_within, leaf_messages, messages_within}
use Rattle.mime_tree.proofs.tree.parse.Goals as goal

pub returns-in-Some-clause-message : goal.returns-in-Some-clause-message
returns-in-Some-clause-message c =
    whole_message c.args.bytes.now c.in_ok-shared.shared.text_plain c.in-Some.built c.part_of.result c.in_ok-shared.ensures.text_plain c.part_of.ensures
    (rw c.in-Some.is at c.in_ok-built.ensures)

pub returns-in-Some-clause-within : goal.returns-in-Some-clause-within
returns-in-Some-clause-within c = message_within c.args.bytes.now c.part_of.result (returns-in-Some-clause-message c)

pub returns-clause-message : goal.returns-clause-message
returns-clause-message c =
    leaf_messages c.args.bytes.now c.in_ok-shared.shared.text_plain c.in_ok-head-in-None.head c.leaf.result c.in_ok-shared.ensures.text_plain c.in_ok-head-in-None.ensures
    (rw c.in-None.is at c.in_ok-built.ensures) c.leaf.ensures

pub returns-clause-within : goal.returns-clause-within
returns-clause-within c = messages_within c.args.bytes.now c.leaf.result (returns-clause-message c)
