-- Rows of Emails, by ascending number.
use Rattle.std.specs.Prelude.{ℕ, List, Bool, ◌==◌}
use Rattle.mail_maps.specs.declared.row.EmailRow.{EmailRow}
use Rattle.mail_maps.specs.Keywords.{is_unread}

abbrev pub Rows : Type 0
Rows = List (ℕ × EmailRow)

abbrev pub in_folder : ℕ → ℕ × EmailRow → Bool
in_folder folder e = e.1.folder == folder

abbrev pub in_thread : ℕ → ℕ × EmailRow → Bool
in_thread thread e = e.1.thread == thread

abbrev pub unread : ℕ × EmailRow → Bool
unread e = is_unread e.1.keywords
