-- What a query asks, or the first refusal by its arguments alone (RFC 8620 sections 5.5 and 5.6): a wrong kind, the account, a filter
-- and then an order that isn't supported.
use Rattle.std.specs.Prelude.{ℕ, List, Bool, false, codes, Option, Some, None, Result, Ok, Err, ok_or}
use Rattle.serde_json.specs.Data.{Data}
use Rattle.serde_json.specs.Find.{get}
use Rattle.jmap_arguments.specs.Arguments.{text_at, most_at, account_check}
use Rattle.jmap_arguments.specs.Outcome.{refusal_of}
use Rattle.jmap_arguments.specs.declared.method_error.MethodError.{MethodError}
use Rattle.jmap_arguments.specs.declared.method_error.MethodError.TheVariants.{InvalidArguments, UnsupportedFilter, UnsupportedSort}
use Rattle.email_properties.specs.Kinds.{flag_at}
use Rattle.query_lists.specs.Filters.{FilterTree}
use Rattle.query_conditions.specs.declared.mailbox_condition.MailboxCondition.{MailboxCondition}
use Rattle.query_arguments.specs.EmailFilters.{email_condition_in}
use Rattle.query_arguments.specs.Filters.{filter_or_all}
use Rattle.query_arguments.specs.FilterTrees.{filter_tree}
use Rattle.query_arguments.specs.MailboxFilters.{mailbox_condition_in}
use Rattle.query_arguments.specs.Parts.{then_asked, part_asked}
use Rattle.query_arguments.specs.Sorts.{sort_or_none, email_comparator_in, mailbox_comparator_in}
use Rattle.query_arguments.specs.declared.asked.AskedList.{AskedList}
use Rattle.query_arguments.specs.declared.asked.AskedPart.{AskedPart}
use Rattle.query_arguments.specs.declared.asked.AskedQuery.{AskedQuery}
use Rattle.query_arguments.specs.declared.asked.AskedQueryChanges.{AskedQueryChanges}
use Rattle.query_orders.specs.declared.comparators.EmailComparator.{EmailComparator}
use Rattle.query_orders.specs.declared.comparators.MailboxComparator.{MailboxComparator}
use Rattle.query_arguments.specs.declared.email_condition.EmailCondition.{EmailCondition}
use Rattle.query_arguments.specs.declared.reading.Reading.{Reading}
use Rattle.query_arguments.specs.declared.reading.Reading.TheVariants.{Wrong, Unsupported, Means}

-- ---- what is asked

module _ (C S : Type 0) where
  -- which rows, and in which order
  pub record ListMeant : Type 0 where
    pub filter : FilterTree C
    pub sort : List S
    pub collapses : Bool

  pub record QueryMeant : Type 0 where
    pub list : ListMeant
    pub part : AskedPart
    pub counts : Bool

  pub record QueryChangesMeant : Type 0 where
    pub list : ListMeant
    pub since : List ℕ
    pub most : Option ℕ
    pub counts : Bool

-- what the code's values stand for
module _ {C S : Type 0} where
  abbrev pub list_seen : AskedList C S → ListMeant C S
  list_seen l = record { filter = filter_tree l.filter; sort = l.sort.items; collapses = l.collapses }

  abbrev pub query_seen : AskedQuery C S → QueryMeant C S
  query_seen q = record { list = list_seen q.list; part = q.part; counts = q.counts }

  abbrev pub changes_seen : AskedQueryChanges C S → QueryChangesMeant C S
  changes_seen q = record { list = list_seen q.list; since = q.since; most = q.most; counts = q.counts }

-- ---- what the arguments ask

module _ {A : Type 0} where
  -- of a right kind, and what it is where it is supported
  abbrev pub kind_check : Reading A → Result (Option A) MethodError
  kind_check Wrong = Err InvalidArguments
  kind_check Unsupported = Ok None
  kind_check (Means a) = Ok (Some a)

abbrev pub filter_asked : {C : Type 0} → (List ℕ → Data → Reading C) → Data → Result (Option (FilterTree C)) MethodError
filter_asked condition_in d = kind_check (filter_or_all condition_in (get (codes "filter") d))

abbrev pub sort_asked : {S : Type 0} → (Data → Reading S) → Data → Result (Option (List S)) MethodError
sort_asked comparator_in d = kind_check (sort_or_none comparator_in (get (codes "sort") d))

module _ {C S : Type 0} where
  -- the account, and then what isn't supported
  abbrev pub list_of : List ℕ → Option (FilterTree C) → Option (List S) → Bool → Result (ListMeant C S) MethodError
  list_of account filter sort collapses =
      then_asked (account_check account) (λ u.
      then_asked (ok_or filter UnsupportedFilter) (λ filter.
      then_asked (ok_or sort UnsupportedSort) (λ sort.
      Ok (record { filter = filter; sort = sort; collapses = collapses }))))

  module _ (condition_in : List ℕ → Data → Reading C) (comparator_in : Data → Reading S) (collapses : Result Bool MethodError) where
    abbrev pub query_asked : Data → Result (QueryMeant C S) MethodError
    query_asked d =
        then_asked (text_at (codes "accountId") d) (λ account.
        then_asked (filter_asked condition_in d) (λ filter.
        then_asked (sort_asked comparator_in d) (λ sort.
        then_asked (part_asked d) (λ part.
        then_asked (flag_at (codes "calculateTotal") d) (λ counts.
        then_asked collapses (λ collapses.
        then_asked (list_of account filter sort collapses) (λ list.
        Ok (record { list = list; part = part; counts = counts }))))))))

    abbrev pub query_changes_asked : Data → Result (QueryChangesMeant C S) MethodError
    query_changes_asked d =
        then_asked (text_at (codes "accountId") d) (λ account.
        then_asked (filter_asked condition_in d) (λ filter.
        then_asked (sort_asked comparator_in d) (λ sort.
        then_asked (text_at (codes "sinceQueryState") d) (λ since.
        then_asked (most_at (codes "maxChanges") d) (λ most.
        then_asked (flag_at (codes "calculateTotal") d) (λ counts.
        then_asked collapses (λ collapses.
        then_asked (list_of account filter sort collapses) (λ list.
        Ok (record { list = list; since = since; most = most; counts = counts })))))))))

-- ---- of Emails and of Mailboxes

abbrev pub email_query_asked : Data → Result (QueryMeant EmailCondition EmailComparator) MethodError
email_query_asked d = query_asked email_condition_in email_comparator_in (flag_at (codes "collapseThreads") d) d

-- Mailboxes are in no Threads
abbrev pub mailbox_query_asked : Data → Result (QueryMeant MailboxCondition MailboxComparator) MethodError
mailbox_query_asked d = query_asked mailbox_condition_in mailbox_comparator_in (Ok false) d

abbrev pub email_query_changes_asked : Data → Result (QueryChangesMeant EmailCondition EmailComparator) MethodError
email_query_changes_asked d = query_changes_asked email_condition_in email_comparator_in (flag_at (codes "collapseThreads") d) d

abbrev pub mailbox_query_changes_asked : Data → Result (QueryChangesMeant MailboxCondition MailboxComparator) MethodError
mailbox_query_changes_asked d = query_changes_asked mailbox_condition_in mailbox_comparator_in (Ok false) d

-- ---- the refusals by the arguments alone, whatever mail there is

abbrev pub email_query_refused : Data → Result (Unit {0}) MethodError
email_query_refused d = refusal_of (email_query_asked d)

abbrev pub mailbox_query_refused : Data → Result (Unit {0}) MethodError
mailbox_query_refused d = refusal_of (mailbox_query_asked d)

abbrev pub email_query_changes_refused : Data → Result (Unit {0}) MethodError
email_query_changes_refused d = refusal_of (email_query_changes_asked d)

abbrev pub mailbox_query_changes_refused : Data → Result (Unit {0}) MethodError
mailbox_query_changes_refused d = refusal_of (mailbox_query_changes_asked d)
