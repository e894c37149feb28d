use Rattle.std.proofs.Common.{◌≡◌, ℕ, ◌∷◌, drop}
use Rattle.serde_json.specs.Data.{no_members}
use Rattle.serde_json.specs.View.{members_view}
use Rattle.mail_maps.specs.Serve.{ServedMailbox, mailbox_of}
use Rattle.read_methods.specs.Mailboxes.{with_properties}
use Rattle.read_methods.specs.declared.mailbox_property.MailboxProperty.TheVariants.{Id}
use Rattle.read_methods.proofs.mailbox_values.mailbox_value.Given as goal

-- the members with all properties are those so far with the rest
abbrev pub invariant-loop-property : goal.invariant-loop-property
invariant-loop-property l =
    let e : ℕ × ServedMailbox = (l.number, mailbox_of l.mailbox) in
    with_properties e (Id ∷ l.wanted) no_members ≡ with_properties e (drop l.property-index l.wanted) (members_view l.members.entries)
