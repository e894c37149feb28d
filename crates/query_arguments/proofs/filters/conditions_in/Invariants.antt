use Rattle.std.proofs.Common.{◌≡◌, ◌++◌}
use Rattle.serde_json.specs.View.{members_view}
use Rattle.query_arguments.specs.Filters.{conditions_in}
use Rattle.query_arguments.proofs.filters.conditions_in.Given as goal

-- those so far, and those of the members that are left, are those of all
abbrev pub invariant-loop-key : goal.invariant-loop-key
invariant-loop-key g l = conditions_in g.C.Condition.condition_in (members_view l.members.entries)
    ≡ l.parts.items ++ conditions_in g.C.Condition.condition_in (members_view l.key-iterator)
