use Rattle.std.proofs.Common.{◌≡◌, ◌++◌, drop, map}
use Rattle.query_lists.specs.declared.groups.GroupedRow.{GroupedRow}
use Rattle.query_core.proofs.email_list.first_of_threads.Given as goal

-- those so far, and those of the rest
abbrev pub invariant-loop-row : goal.invariant-loop-row
invariant-loop-row l = l.numbers.items ++ map (λ (r : GroupedRow). r.number) (drop l.row-index l.row-items) ≡ map (λ (r : GroupedRow). r.number) l.row-items
