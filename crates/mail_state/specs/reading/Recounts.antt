-- Mailboxes of which only the counts change.
use Rattle.std.specs.Prelude.{ℕ, ◌==◌, List, [], ◌∷◌, Bool, true, not, if◌then◌else◌, map, filter, Option}
use Rattle.std.specs.BTreeMap.{BTreeMap, get}
use Rattle.std.specs.Option.{option_map}
use Rattle.std.specs.Ordering.{nat_cmp}
use Rattle.change_list.specs.declared.entries.Entry.{Entry}
use Rattle.change_list.specs.declared.entries.Kind.TheVariants.{Changed}
use Rattle.mail_maps.specs.declared.row.MailboxRow.{MailboxRow}
use Rattle.mail_maps.specs.declared.tally.FolderCounts.{FolderCounts}
use Rattle.mail_maps.specs.Mailboxes.{counts_at}
use Rattle.mail_maps.specs.Serve.{counts_of, same_counts}

-- the counts of a folder among these
abbrev pub counted : BTreeMap ℕ FolderCounts → ℕ → FolderCounts
counted counts folder = counts_at (get nat_cmp counts folder)

abbrev pub with_counts : FolderCounts → MailboxRow → MailboxRow
with_counts c row = record row {
  total_emails = c.total_emails;
  unread_emails = c.unread_emails;
  total_threads = c.total_threads;
  unread_threads = c.unread_threads;
}

-- a Mailbox with the counts of its number
abbrev pub recounted : (ℕ → FolderCounts) → ℕ × MailboxRow → ℕ × MailboxRow
recounted counts e = (e.0, with_counts (counts e.0) e.1)

abbrev pub all_recounted : (ℕ → FolderCounts) → List (ℕ × MailboxRow) → List (ℕ × MailboxRow)
all_recounted counts boxes = map {B = ℕ × MailboxRow} (recounted counts) boxes

-- whether the Mailbox has other counts
abbrev pub is_recounted : (ℕ → FolderCounts) → ℕ × MailboxRow → Bool
is_recounted counts e = not (same_counts (counts_of e.1) (counts e.0))

abbrev pub touch_of_counts : ℕ × MailboxRow → Entry
touch_of_counts e = record { id = e.0; kind = Changed; counts_only = true }

-- the touches of those that have other counts
abbrev pub recounts : (ℕ → FolderCounts) → List (ℕ × MailboxRow) → List Entry
recounts counts boxes = map touch_of_counts (filter (is_recounted counts) boxes)

-- the Mailbox of q, where that of a number gets these counts
abbrev pub row_recounted : FolderCounts → ℕ → ℕ → Option MailboxRow → Option MailboxRow
row_recounted counts number q o = if number == q then option_map (with_counts counts) o else o

-- the same, where those of touches get theirs
abbrev pub rows_recounted : (ℕ → FolderCounts) → List Entry → ℕ → Option MailboxRow → Option MailboxRow
rows_recounted counts [] q o = o
rows_recounted counts (e ∷ es) q o = rows_recounted counts es q (row_recounted (counts e.id) e.id q o)
