use Rattle.std.proofs.Common.{◌≡◌, map}
use Rattle.serde_json.specs.View.{members_view}
use Rattle.result_references.specs.Call.{call_data}
use Rattle.result_references.specs.reading.Counting.{all_stand}
use Rattle.result_references.proofs.limit.all_stand.Given as goal

-- all stand where those of the rest do
abbrev pub invariant-loop-key : goal.invariant-loop-key
invariant-loop-key l = all_stand (map call_data l.earlier) (members_view l.members.entries) ≡ all_stand (map call_data l.earlier) (members_view l.key-iterator)
