-- The whole list of a query, and whether it reads each record alone (RFC 8620 section 5.5, RFC 8621 sections 2.3 and 4.4).
use Rattle.std.specs.Prelude.{◌≡◌, ℕ, List, Bool, true, false, not, ◌&&◌, ◌||◌, map, if◌then◌else◌}
use Rattle.std.specs.List.{list_any}
use Rattle.mail_maps.specs.Serve.{Email, ServedMailbox}
use Rattle.query_conditions.specs.Mailboxes.{MailboxMatches}
use Rattle.query_conditions.specs.Records.{RecordMatches}
use Rattle.query_conditions.specs.ThreadKeywords.{ThreadMatches}
use Rattle.query_conditions.specs.declared.mailbox_condition.MailboxCondition.{MailboxCondition}
use Rattle.query_orders.specs.Emails.{email_cmp, sort_reads_thread}
use Rattle.query_orders.specs.Entries.{in_its_thread}
use Rattle.query_orders.specs.Mailboxes.{mailbox_cmp}
use Rattle.query_orders.specs.declared.comparators.EmailComparator.{EmailComparator}
use Rattle.query_orders.specs.declared.comparators.MailboxComparator.{MailboxComparator}
use Rattle.query_core.specs.Headers.{HeaderMatches}
use Rattle.query_arguments.specs.declared.email_condition.EmailCondition.{EmailCondition}
use Rattle.query_arguments.specs.declared.email_condition.EmailCondition.TheVariants.{Record, Header, Thread}
use Rattle.query_arguments.specs.Asked.{ListMeant}
use Rattle.query_lists.specs.Filters.{FilterTree, conditions, joined_by, FilterTrees, no_filters, filters, PassesFilter}
use Rattle.query_lists.specs.Groups.{first_of_each}
use Rattle.query_lists.specs.Ordered.{IsQueryList, numbers_of}
use Rattle.query_lists.specs.declared.groups.GroupedRow.{GroupedRow}

abbrev pub EmailListAsked : Type 0
EmailListAsked = ListMeant EmailCondition EmailComparator

abbrev pub MailboxListAsked : Type 0
MailboxListAsked = ListMeant MailboxCondition MailboxComparator

-- when an Email, of all these, is as a condition says
abbrev pub EmailMatches : List (ℕ × Email) → Email → EmailCondition → Type 0
EmailMatches emails e (Record c) = RecordMatches e c
EmailMatches emails e (Header name words) = HeaderMatches e.immutable.header name words
EmailMatches emails e (Thread quantity keyword) = ThreadMatches emails quantity keyword e.immutable.thread

-- whether other Emails of its Thread decide too
abbrev pub reads_thread : EmailCondition → Bool
reads_thread (Record c) = false
reads_thread (Header name words) = false
reads_thread (Thread quantity keyword) = true

-- all rows, or of each Thread the first
abbrev pub collapsed_if : Bool → List (ℕ × Email) → List ℕ
collapsed_if collapses rows = if collapses then map (λ (r : GroupedRow). r.number) (first_of_each (map in_its_thread rows)) else numbers_of rows

-- the Emails that the filter takes, in the order asked
pub record IsEmailList (emails : List (ℕ × Email)) (asked : EmailListAsked) (numbers : List ℕ) : Type 0 where
  pub rows : List (ℕ × Email)
  pub are : IsQueryList emails (λ e. PassesFilter (EmailMatches emails e.1) asked.filter) (email_cmp emails asked.sort) rows
  pub numbers_are : numbers ≡ collapsed_if asked.collapses rows

-- the same of Mailboxes
pub record IsMailboxList (mailboxes : List (ℕ × ServedMailbox)) (asked : MailboxListAsked) (numbers : List ℕ) : Type 0 where
  pub rows : List (ℕ × ServedMailbox)
  pub are : IsQueryList mailboxes (λ b. PassesFilter (MailboxMatches b.1) asked.filter) (mailbox_cmp asked.sort) rows
  pub numbers_are : numbers ≡ numbers_of rows

-- ---- which queries read each record alone

module _ {C : Type 0} (is_such : C → Bool) where
  abbrev mutual
    -- whether a condition of the filter is such a one
    pub has_condition : FilterTree C → Bool
    has_condition (conditions cs) = list_any is_such cs
    has_condition (joined_by operator fs) = have_condition fs

    pub have_condition : FilterTrees C → Bool
    have_condition no_filters = false
    have_condition (filters f fs) = has_condition f || have_condition fs

-- neither the filter nor the order speaks of other Emails of a Thread, and Threads aren't collapsed
abbrev pub reads_record_alone : EmailListAsked → Bool
reads_record_alone asked =
    not asked.collapses && (not (has_condition reads_thread asked.filter) && not (list_any (λ (c : EmailComparator). sort_reads_thread c.property) asked.sort))
