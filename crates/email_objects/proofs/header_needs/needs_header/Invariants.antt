use Rattle.std.proofs.Common.{◌≡◌, drop}
use Rattle.email_objects.specs.Properties.{needs_email_header}
use Rattle.email_objects.proofs.header_needs.needs_header.Given as goal

-- one of all needs the header where one of the rest does
abbrev pub invariant-loop-property : goal.invariant-loop-property
invariant-loop-property l = needs_email_header l.properties ≡ needs_email_header (drop l.property-index l.properties)
