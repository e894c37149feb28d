use Rattle.std.proofs.Common.{◌≡◌, ◌⊎◌, ◌∙◌, inl, inr, sym, ap}
use Rattle.change_list.specs.Kept.{Kept}
use Rattle.change_list.proofs.HistoryLaws.{length-entries_from}
use Rattle.mail_state.specs.History.{MailHistory}
use Rattle.set_arguments.specs.declared.set_method.SetMethod.{SetMethod}
use Rattle.set_arguments.specs.declared.set_method.SetMethod.TheVariants.{EmailSet, EmailImport}
use Rattle.set_replies.specs.States as states
use Rattle.gate_changes.proofs.answering.place_of.Goals as goal

-- that of Emails, where the method is one of theirs
of_emails : (m : SetMethod) (h : MailHistory) → (m ≡ EmailSet) ⊎ (m ≡ EmailImport) → states.place_of EmailSet h ≡ states.place_of m h
of_emails m h (inl is) = ap (λ (x : SetMethod). states.place_of x h) (sym is)
of_emails m h (inr is) = ap (λ (x : SetMethod). states.place_of x h) (sym is)

pub returns-in-EmailSet : goal.returns-in-EmailSet
returns-in-EmailSet c = λ h of.
    c.place.ensures.exact
    ∙ (ap (λ (k : Kept). k.place) c.list.ensures
    ∙ (of.emails.kept.place
    ∙ (length-entries_from _ h.emails.touches
    ∙ of_emails c.args.method h c.in-EmailSet.is)))

pub returns-in-MailboxSet : goal.returns-in-MailboxSet
returns-in-MailboxSet c = λ h of.
    c.place-in-MailboxSet.ensures.exact
    ∙ (ap (λ (k : Kept). k.place) c.list-in-MailboxSet.ensures
    ∙ (of.mailboxes.kept.place
    ∙ (length-entries_from _ h.mailboxes.touches
    ∙ ap (λ (m : SetMethod). states.place_of m h) (sym c.in-MailboxSet.is))))
