use Rattle.std.proofs.Common.{◌≡◌, ◌++◌, drop, map}
use Rattle.std.specs.Option.{option_copied}
use Rattle.query_conditions.specs.Entries.{email_at}
use Rattle.query_conditions.specs.declared.entry.EmailEntry.{EmailEntry}
use Rattle.query_orders.specs.reading.Rows.{sorted_text}
use Rattle.query_orders.proofs.emails.texts_of.Given as goal

-- those so far, and those of the rest
abbrev pub invariant-loop-row : goal.invariant-loop-row
invariant-loop-row l = map option_copied l.texts.items ++ map (λ (e : EmailEntry). sorted_text l.text (email_at e)) (drop l.row-index l.rows) ≡ map (λ (e : EmailEntry). sorted_text l.text (email_at e)) l.rows
