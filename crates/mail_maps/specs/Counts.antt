-- The four counts of a Mailbox (RFC 8621 section 2).
use Rattle.std.specs.Prelude.{ℕ, Bool, ◌&&◌, filter, length, count_by}
use Rattle.std.specs.List.{list_any}
use Rattle.mail_maps.specs.declared.row.EmailRow.{EmailRow}
use Rattle.mail_maps.specs.Rows.{Rows, in_folder, in_thread, unread}
use Rattle.mail_maps.specs.Threads.{thread_numbers}

-- the Thread of e has an unread Email, in whatever Mailbox
abbrev pub in_unread_thread : Rows → ℕ × EmailRow → Bool
in_unread_thread rows e = list_any (λ d. in_thread e.1.thread d && unread d) rows

abbrev pub count_threads : Rows → ℕ
count_threads rows = length (thread_numbers rows)

abbrev pub total_emails : Rows → ℕ → ℕ
total_emails rows folder = count_by (in_folder folder) rows

abbrev pub unread_emails : Rows → ℕ → ℕ
unread_emails rows folder = count_by (λ e. in_folder folder e && unread e) rows

-- Threads with an Email in the folder
abbrev pub total_threads : Rows → ℕ → ℕ
total_threads rows folder = count_threads (filter (in_folder folder) rows)

-- Threads with an Email in the folder, and an unread Email anywhere
abbrev pub unread_threads : Rows → ℕ → ℕ
unread_threads rows folder = count_threads (filter (λ e. in_folder folder e && in_unread_thread rows e) rows)
