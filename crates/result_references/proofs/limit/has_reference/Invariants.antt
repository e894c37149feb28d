use Rattle.std.proofs.Common.{◌≡◌}
use Rattle.serde_json.specs.View.{members_view}
use Rattle.result_references.specs.References.{has_reference}
use Rattle.result_references.proofs.limit.has_reference.Given as goal

-- one of all is one of the rest
abbrev pub invariant-loop-key : goal.invariant-loop-key
invariant-loop-key l = has_reference (members_view l.members.entries) ≡ has_reference (members_view l.key-iterator)
