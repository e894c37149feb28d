-- The tables that are kept in maps.
use Rattle.std.specs.BTreeMap.{get}
use Rattle.std.specs.Ordering.{nat_cmp}
use Rattle.mail_batches.specs.Tables.{Tables}
use Rattle.mail_batches.specs.declared.mail_tables.MailTables.{MailTables}

abbrev pub tables_of : MailTables → Tables
tables_of a = record { folders = get nat_cmp a.folders; messages = get nat_cmp a.messages; next_mark = a.next_mark; next_folder = a.next_folder }
