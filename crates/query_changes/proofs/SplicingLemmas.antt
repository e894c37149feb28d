-- A client's list, spliced by an answer, is the list of now.
use Rattle.std.proofs.Common.{◌≡◌, ◌≤◌, ℕ, List, Bool, true, None, Result, Ok, Err, refl, sym, ap, ◌∙◌, subst, arith}
use Rattle.std.specs.List.{list_any}
use Rattle.std.specs.Result.{IfOk}
use Rattle.serde_json.specs.Data.{Data}
use Rattle.serde_json.specs.View.{view}
use Rattle.serde_json.specs.declared.value.Value.{Value}
use Rattle.change_list.specs.Advance.{row_at}
use Rattle.change_list.specs.History.{entries_of}
use Rattle.change_list.specs.TouchedIds.{AreTouched}
use Rattle.change_list.proofs.HistoryLaws.{length-entries_from}
use Rattle.jmap_arguments.specs.Ids.{email_letter, mailbox_letter}
use Rattle.jmap_arguments.specs.Outcome.{Meets}
use Rattle.jmap_arguments.specs.declared.method_error.MethodError.{MethodError}
use Rattle.jmap_arguments.specs.declared.method_error.MethodError.TheVariants.{Memory}
use Rattle.query_conditions.specs.Mailboxes.{MailboxMatches}
use Rattle.mail_maps.specs.Serve.{Email, ServedMailbox}
use Rattle.query_orders.specs.Emails.{email_cmp, sort_reads_thread}
use Rattle.query_orders.specs.Mailboxes.{mailbox_cmp}
use Rattle.query_orders.specs.declared.comparators.EmailComparator.{EmailComparator}
use Rattle.query_orders.proofs.OrderLaws.{email_total, mailbox_total}
use Rattle.mail_state.specs.History.{MailHistory}
use Rattle.served_maps.specs.Past.{Past, IsPast, had_at, place_now}
use Rattle.query_arguments.specs.Asked.{ListMeant, QueryChangesMeant, email_query_changes_asked, mailbox_query_changes_asked}
use Rattle.query_core.specs.Lists.{EmailListAsked, EmailMatches, IsEmailList, IsMailboxList, MailboxListAsked, collapsed_if, has_condition, reads_record_alone, reads_thread}
use Rattle.query_lists.specs.Filters.{PassesFilter}
use Rattle.query_lists.specs.Ordered.{numbers_of}
use Rattle.query_lists.specs.Splices.{spliced}
use Rattle.query_changes.specs.Changes.{were_there, now_in, FoundChanges, AnswersQueryChanges, ReadsMore, NamesNoState, TooMany, Answered, RefusedOr}
use Rattle.query_changes.specs.Replies.{email_calculable, mailbox_calculable, RepliesEmailQueryChanges, RepliesMailboxQueryChanges}
use Rattle.query_changes.specs.Splicing.{IsListNow, BringsListToNow, SplicesEmails, SplicesMailboxes}
use Rattle.query_core.proofs.EmailLemmas.{alone_parts, order_same, takes_same}
use Rattle.query_changes.proofs.RowLemmas.{splices_to_now}

-- ---- lists

moved : (touched : List (ℕ × Bool)) (old was new now : List ℕ) → old ≡ was → new ≡ now → spliced was (were_there touched) (now_in now touched) ≡ now
    → spliced old (were_there touched) (now_in new touched) ≡ new
moved touched old was new now old_is new_is is =
    ap (λ (l : List ℕ). spliced l (were_there touched) (now_in new touched)) old_is
    ∙ ap (λ (l : List ℕ). spliced was (were_there touched) (now_in l touched)) new_is ∙ is ∙ sym new_is

emails_spliced : (p : Past Email) → IsPast p → (asked : EmailListAsked) → reads_record_alone asked ≡ true → (place : ℕ) (touched : List (ℕ × Bool)) → place ≤ place_now p
    → AreTouched (entries_of p.touches) place touched → (earlier : List (ℕ × Email)) → ((n : ℕ) → row_at earlier n ≡ had_at p place n) → (old new : List ℕ)
    → IsEmailList earlier asked old → IsEmailList p.now asked new → spliced old (were_there touched) (now_in new touched) ≡ new
emails_spliced p past asked alone place touched within are earlier as_then old new was is =
    let parts =
    alone_parts asked.collapses (has_condition reads_thread asked.filter) (list_any (λ (c : EmailComparator). sort_reads_thread c.property) asked.sort) alone in
    moved touched old (numbers_of was.rows) new (numbers_of is.rows)
    (was.numbers_are ∙ ap (λ (b : Bool). collapsed_if b was.rows) parts.0) (is.numbers_are ∙ ap (λ (b : Bool). collapsed_if b is.rows) parts.0)
    (splices_to_now p past place within touched are earlier as_then
    (λ (e : ℕ × Email). PassesFilter (EmailMatches earlier e.1) asked.filter) (λ (e : ℕ × Email). PassesFilter (EmailMatches p.now e.1) asked.filter)
    (λ e. (takes_same earlier p.now asked.filter e.1 parts.1).0) (λ e. (takes_same earlier p.now asked.filter e.1 parts.1).1)
    (email_cmp earlier asked.sort) (email_cmp p.now asked.sort) (λ a b. order_same earlier p.now asked.sort a b parts.2) (email_total p.now asked.sort)
    was.rows is.rows was.are is.are)

mailboxes_spliced : (p : Past ServedMailbox) → IsPast p → (asked : MailboxListAsked) → (place : ℕ) (touched : List (ℕ × Bool)) → place ≤ place_now p
    → AreTouched (entries_of p.touches) place touched → (earlier : List (ℕ × ServedMailbox)) → ((n : ℕ) → row_at earlier n ≡ had_at p place n) → (old new : List ℕ)
    → IsMailboxList earlier asked old → IsMailboxList p.now asked new → spliced old (were_there touched) (now_in new touched) ≡ new
mailboxes_spliced p past asked place touched within are earlier as_then old new was is =
    let Takes : ℕ × ServedMailbox → Type 0 = λ b. PassesFilter (MailboxMatches b.1) asked.filter in
    moved touched old (numbers_of was.rows) new (numbers_of is.rows) was.numbers_are is.numbers_are
    (splices_to_now p past place within touched are earlier as_then Takes Takes (λ b h. h) (λ b h. h)
    (mailbox_cmp asked.sort) (mailbox_cmp asked.sort) (λ a b. refl) (mailbox_total asked.sort) was.rows is.rows was.are is.are)

-- ---- answers

module _ {C S V : Type 0} (letter epoch : ℕ) (p : Past V) (calculable : QueryChangesMeant C S → Bool) (IsListOf : List (ℕ × V) → ListMeant C S → List ℕ → Type 0)
    (spliced_is : (q : QueryChangesMeant C S) → calculable q ≡ true → (place : ℕ) (touched : List (ℕ × Bool)) → place ≤ place_now p
    → AreTouched (entries_of p.touches) place touched → (earlier : List (ℕ × V)) → ((n : ℕ) → row_at earlier n ≡ had_at p place n) → (old new : List ℕ)
    → IsListOf earlier q.list old → IsListOf p.now q.list new → spliced old (were_there touched) (now_in new touched) ≡ new) where
  abbrev IsAnswer : QueryChangesMeant C S → Result Data MethodError → Type 0
  IsAnswer q r = AnswersQueryChanges letter epoch (entries_of p.touches) calculable (IsListNow IsListOf p) q r

  to_last : (q : QueryChangesMeant C S) (f : FoundChanges epoch (entries_of p.touches) (IsListNow IsListOf p) q) → f.place ≤ place_now p
  to_last q f = omega (arith, f.named.to_last, length-entries_from (λ _. None) p.touches)

  brings_if : (q : QueryChangesMeant C S) (r : Result Data MethodError) → IsAnswer q r → IfOk r (BringsListToNow letter epoch p IsListOf (Ok q))
  brings_if q _ (ReadsMore is) = tt
  brings_if q _ (NamesNoState none) = tt
  brings_if q _ (TooMany f can is) = tt
  brings_if q _ (Answered f can is) = record {
    q = q;
    found = f;
    asked_is = refl;
    reply_is = refl;
    splices = λ earlier old as_then was. spliced_is q can f.place f.touched (to_last q f) f.are_touched earlier as_then old f.list was f.is_list;
  }

  -- an answer brings a client's list to now
  pub brings : (asked : Result (QueryChangesMeant C S) MethodError) (r : Result Data MethodError) → RefusedOr IsAnswer asked r
      → IfOk r (BringsListToNow letter epoch p IsListOf asked)
  brings (Ok q) r answers = brings_if q r answers
  brings (Err e) r is = let P : Result Data MethodError → Type 0 = λ x. IfOk x (BringsListToNow letter epoch p IsListOf (Err e)) in subst P (sym is) tt

  -- so does a value that is one
  pub value_brings : (asked : Result (QueryChangesMeant C S) MethodError) (r : Result Value MethodError) → Meets Memory view r (RefusedOr IsAnswer asked)
      → IfOk r (λ value. BringsListToNow letter epoch p IsListOf asked (view value))
  value_brings asked (Ok value) answers = brings asked (Ok (view value)) answers
  value_brings asked (Err e) answers = tt

module _ (h : MailHistory) (d : Data) where
  module _ (past : IsPast h.emails) where
    pub emails_brought : (r : Result Data MethodError) → RepliesEmailQueryChanges h d r → IfOk r (SplicesEmails h d)
    emails_brought =
        brings email_letter h.epoch h.emails email_calculable IsEmailList (λ q can. emails_spliced h.emails past q.list can) (email_query_changes_asked d)

    pub email_value : (r : Result Value MethodError) → Meets Memory view r (RepliesEmailQueryChanges h d) → IfOk r (λ value. SplicesEmails h d (view value))
    email_value =
        value_brings email_letter h.epoch h.emails email_calculable IsEmailList (λ q can. emails_spliced h.emails past q.list can) (email_query_changes_asked d)

  module _ (past : IsPast h.mailboxes) where
    pub mailboxes_brought : (r : Result Data MethodError) → RepliesMailboxQueryChanges h d r → IfOk r (SplicesMailboxes h d)
    mailboxes_brought =
        brings mailbox_letter h.epoch h.mailboxes mailbox_calculable IsMailboxList (λ q can. mailboxes_spliced h.mailboxes past q.list) (mailbox_query_changes_asked d)

    pub mailbox_value : (r : Result Value MethodError) → Meets Memory view r (RepliesMailboxQueryChanges h d) → IfOk r (λ value. SplicesMailboxes h d (view value))
    mailbox_value =
        value_brings mailbox_letter h.epoch h.mailboxes mailbox_calculable IsMailboxList (λ q can. mailboxes_spliced h.mailboxes past q.list) (mailbox_query_changes_asked d)
