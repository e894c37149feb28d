-- The touches of Emails from one list of rows to the next: removals, then changes, then additions, each by ascending number.
use Rattle.std.specs.Prelude.{List}
use Rattle.change_list.specs.Advance.{advance_entries}
use Rattle.change_list.specs.declared.entries.Entry.{Entry}
use Rattle.served_maps.specs.Past.{tests_of}
use Rattle.mail_maps.specs.Rows.{Rows}
use Rattle.mail_maps.specs.Serve.{email_of, email_tests}

-- an Email is changed where what is served of it is: a UID isn't
abbrev pub email_touches : Rows → Rows → List Entry
email_touches old new = advance_entries (tests_of email_of email_tests) old new
