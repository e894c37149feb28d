use Rattle.std.proofs.Common.{◌≡◌, ◌++◌, drop, map}
use Rattle.read_methods.specs.Mailboxes.{those_named}
use Rattle.read_methods.proofs.mailbox_property.those_named.Given as goal

-- those of all that are named are those so far, and then those of the rest
abbrev pub invariant-loop-property : goal.invariant-loop-property
invariant-loop-property l = those_named l.properties (map (λ t. t.now) l.names.items)
    ≡ l.wanted.items ++ those_named (drop l.property-index l.properties) (map (λ t. t.now) l.names.items)
