use Rattle.std.proofs.Common.{◌≡◌, ◌++◌, drop, map}
use Rattle.query_conditions.specs.declared.entry.EmailEntry.{EmailEntry}
use Rattle.query_orders.proofs.emails.numbers_of.Given as goal

-- those so far, and those of the rest
abbrev pub invariant-loop-row : goal.invariant-loop-row
invariant-loop-row l = l.numbers.items ++ map (λ (e : EmailEntry). e.number) (drop l.row-index l.rows) ≡ map (λ (e : EmailEntry). e.number) l.rows
