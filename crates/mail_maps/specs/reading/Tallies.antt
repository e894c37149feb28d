-- The counts of a folder, one Email after another.
use Rattle.std.specs.Prelude.{ℕ, ◌+◌, List, [], ◌∷◌, if◌then◌else◌, length, count_by, Option, Some, None}
use Rattle.std.specs.Ordering.{nat_cmp}
use Rattle.std.specs.BTreeSet.{BTreeSet, contains, insert_key}
use Rattle.mail_maps.specs.declared.row.EmailRow.{EmailRow}
use Rattle.mail_maps.specs.Keywords.{is_unread}
use Rattle.mail_maps.specs.Rows.{Rows, in_folder}
use Rattle.mail_maps.specs.declared.tally.FolderCounts.{FolderCounts}

-- Emails and unread ones so far, and the Threads so far
pub record Tallied : Type 0 where
  pub total : ℕ
  pub unread : ℕ
  pub threads : List ℕ

abbrev pub none_tallied : Tallied
none_tallied = record { total = 0; unread = 0; threads = [] }

-- one Email more
abbrev pub tally_one : Tallied → EmailRow → Tallied
tally_one c row = record {
  total = c.total + 1;
  unread = (if is_unread row.keywords then c.unread + 1 else c.unread);
  threads = insert_key nat_cmp c.threads row.thread;
}

abbrev pub tally_in : ℕ → Tallied → ℕ × EmailRow → Tallied
tally_in folder c e = if in_folder folder e then tally_one c e.1 else c

abbrev pub tally_after : ℕ → Tallied → Rows → Tallied
tally_after folder c [] = c
tally_after folder c (e ∷ es) = tally_after folder (tally_in folder c e) es

abbrev pub tallied_at : Option Tallied → Tallied
tallied_at None = none_tallied
tallied_at (Some c) = c

-- the counts, where these are the Threads that have an unread Email
abbrev pub counts_told : BTreeSet ℕ → Tallied → FolderCounts
counts_told unread c = record {
  total_emails = c.total;
  unread_emails = c.unread;
  total_threads = length c.threads;
  unread_threads = count_by (contains nat_cmp unread) c.threads;
}
