use Rattle.std.proofs.Common.{◌≡◌, ◌++◌, Some, drop, map}
use Rattle.std.specs.Option.{option_copied}
use Rattle.query_orders.specs.declared.entry.MailboxEntry.{MailboxEntry}
use Rattle.query_orders.proofs.mailboxes.names_of.Given as goal

-- those so far, and those of the rest
abbrev pub invariant-loop-row : goal.invariant-loop-row
invariant-loop-row l = map option_copied l.names.items ++ map (λ (b : MailboxEntry). Some b.row.now.name) (drop l.row-index l.rows) ≡ map (λ (b : MailboxEntry). Some b.row.now.name) l.rows
