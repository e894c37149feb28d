use Rattle.std.proofs.Common.{◌≡◌, drop}
use Rattle.body_parts.specs.reading.OwnHeaders.{needs_header}
use Rattle.body_parts.proofs.own_headers.needs_header.Given as goal

-- one of all needs the header where one of the rest does
abbrev pub invariant-loop-property : goal.invariant-loop-property
invariant-loop-property l = needs_header l.asked ≡ needs_header (drop l.property-index l.asked)
