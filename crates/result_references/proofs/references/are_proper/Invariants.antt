use Rattle.std.proofs.Common.{◌≡◌}
use Rattle.serde_json.specs.View.{view, members_view}
use Rattle.result_references.specs.References.{are_proper}
use Rattle.result_references.proofs.references.are_proper.Given as goal

-- all are proper where those that are left are
abbrev pub invariant-loop-key : goal.invariant-loop-key
invariant-loop-key l = are_proper (view l.arguments) (members_view l.members.entries) ≡ are_proper (view l.arguments) (members_view l.key-iterator)
