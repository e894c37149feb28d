use Rattle.std.proofs.Common.{◌≡◌, ℕ}
use Rattle.query_conditions.specs.Entries.{emails_at}
use Rattle.mail_maps.specs.Serve.{Email, email_of}
use Rattle.query_core.proofs.KeptLemmas.{KeepsOnward}
use Rattle.query_core.proofs.email_list.in_mailbox.Given as goal

-- those so far go before whatever is kept of the rows that are left
abbrev pub invariant-loop-number : goal.invariant-loop-number
invariant-loop-number l =
    KeepsOnward (λ (e : ℕ × Email). l.fn.mailbox ≡ e.1.folder) email_of l.state.rows.numbered.rows l.number-iterator (emails_at l.entries.items)
