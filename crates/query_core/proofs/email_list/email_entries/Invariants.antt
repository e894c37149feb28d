use Rattle.std.proofs.Common.{◌≡◌, ◌++◌}
use Rattle.served_maps.specs.Past.{served}
use Rattle.mail_maps.specs.Serve.{email_of}
use Rattle.query_conditions.specs.Entries.{emails_at}
use Rattle.query_core.proofs.email_list.email_entries.Given as goal

-- those so far, and those that are left
abbrev pub invariant-loop-number : goal.invariant-loop-number
invariant-loop-number l = emails_at l.entries.items ++ served email_of l.number-iterator ≡ served email_of l.state.rows.numbered.rows
