use Rattle.std.proofs.Common.{◌≡◌, drop}
use Rattle.std.specs.List.{list_any}
use Rattle.email_properties.specs.EmailProperties.{is_of_body}
use Rattle.email_properties.proofs.wanted.needs_body.Given as goal

-- one of all needs the body where one of the rest does
abbrev pub invariant-loop-property : goal.invariant-loop-property
invariant-loop-property l = list_any is_of_body l.property-items ≡ list_any is_of_body (drop l.property-index l.property-items)
