use Rattle.std.proofs.Common.{◌≡◌, ◌++◌, map, option_map}
use Rattle.serde_json.specs.View.{members_view}
use Rattle.set_arguments.specs.Arguments.{objects_in}
use Rattle.set_arguments.specs.reading.Keys.{keyed_data}
use Rattle.set_arguments.proofs.arguments.objects_in.Given as goal

-- the objects so far, and those of the members that are left, are those of all
abbrev pub invariant-loop-key : goal.invariant-loop-key
invariant-loop-key l = objects_in (members_view l.members.entries) ≡ option_map (λ cs. map keyed_data l.objects.items ++ cs) (objects_in (members_view l.key-iterator))
