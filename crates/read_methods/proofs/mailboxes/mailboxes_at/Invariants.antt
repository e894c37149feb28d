use Rattle.std.proofs.Common.{◌≡◌, ◌++◌, drop, map}
use Rattle.serde_json.specs.View.{view}
use Rattle.jmap_arguments.proofs.GetLemmas.{at_numbers}
use Rattle.served_maps.specs.Past.{served}
use Rattle.mail_maps.specs.Serve.{mailbox_of}
use Rattle.read_methods.specs.Mailboxes.{mailbox_objects}
use Rattle.read_methods.proofs.mailboxes.mailboxes_at.Given as goal

-- what is there of all is what is there so far, and then what is there of the rest
abbrev pub invariant-loop-number : goal.invariant-loop-number
invariant-loop-number l =
    let objects = mailbox_objects (served mailbox_of l.state.rows.mailboxes) l.wanted in
    at_numbers objects l.numbers ≡ map view l.list.items ++ at_numbers objects (drop l.number-index l.numbers)
