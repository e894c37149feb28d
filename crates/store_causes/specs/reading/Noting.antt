-- What is noted of a life, exchange by exchange.
use Rattle.std.specs.Prelude.{Bool, Option, Some, None}
use Rattle.told_folder.specs.declared.exchange.Exchange.{Exchange}
use Rattle.imap_exchange.specs.declared.link_end.LinkEnd.{LinkEnd}
use Rattle.imap_client.specs.declared.plan.Due.{Due}
use Rattle.imap_client.specs.declared.plan.Due.TheVariants as due
use Rattle.imap_client.specs.LinkLife.{selected_after}
use Rattle.store_causes.specs.declared.cause.StoreCause.{StoreCause}
use Rattle.store_causes.specs.declared.notes.Notes.{Notes}
use Rattle.store_causes.specs.Causes.{asked_by, cause_after, let_in_after, unanswered}

abbrev pub unasked : Bool → Notes
unasked preauth = record { let_in = preauth; selected = None; cause = None }

abbrev pub noted : Notes → Exchange → Notes
noted n x = record { let_in = let_in_after n.let_in x; selected = selected_after n.selected x; cause = Some (cause_after n.let_in x) }

-- the cause where this is due and the life ended so
abbrev pub cause_at : Notes → Due → LinkEnd → Option StoreCause
cause_at n (due.Send command) e = unanswered (asked_by command n.selected) e
cause_at n _ e = n.cause
