use Rattle.std.proofs.Common.{◌≡◌, map}
use Rattle.serde_json.specs.Data.{no_members}
use Rattle.serde_json.specs.View.{members_view}
use Rattle.result_references.specs.Call.{call_data}
use Rattle.result_references.specs.References.{resolved_to}
use Rattle.result_references.proofs.references.resolved_all.Given as goal

-- all members are those that are left, put to those so far
abbrev pub invariant-loop-key : goal.invariant-loop-key
invariant-loop-key l = resolved_to (map call_data l.earlier) no_members (members_view l.members.entries)
    ≡ resolved_to (map call_data l.earlier) (members_view l.resolved.entries) (members_view l.key-iterator)
