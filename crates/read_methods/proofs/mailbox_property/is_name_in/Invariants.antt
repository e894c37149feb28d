use Rattle.std.proofs.Common.{◌≡◌, drop}
use Rattle.read_methods.specs.Mailboxes.{is_name_in}
use Rattle.read_methods.proofs.mailbox_property.is_name_in.Given as goal

-- the name is that of one of all where it is that of one of the rest
abbrev pub invariant-loop-property : goal.invariant-loop-property
invariant-loop-property l = is_name_in l.properties l.name ≡ is_name_in (drop l.property-index l.properties) l.name
