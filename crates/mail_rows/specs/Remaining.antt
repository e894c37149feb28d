-- What becomes of the Emails that are there: each remains while the mail shows its mark, in whatever folder.
use Rattle.std.specs.Prelude.{ℕ, List, [], ◌∷◌, Option, Some, None}
use Rattle.std.specs.Option.{option_map}
use Rattle.told_folder.specs.declared.message.NumberedFolder.{NumberedFolder}
use Rattle.mail_maps.specs.declared.row.EmailRow.{EmailRow}
use Rattle.mail_maps.specs.Rows.{Rows}
use Rattle.mail_maps.specs.Keywords.{keywords_of}
use Rattle.mail_maps.specs.Visible.{Placed, shown}

-- folder, UID and keywords are those of its message
abbrev pub updated : EmailRow → Placed → EmailRow
updated row p = record row { folder = p.folder; uid = p.message.uid; keywords = keywords_of p.message.flags }

-- what becomes of a row
abbrev pub remaining_row : List NumberedFolder → EmailRow → Option EmailRow
remaining_row hs row = option_map (updated row) (shown hs row.mark)

abbrev pub put_remaining : ℕ → Option EmailRow → Rows → Rows
put_remaining number None rest = rest
put_remaining number (Some row) rest = (number, row) ∷ rest

-- the rows that remain
abbrev pub remaining : List NumberedFolder → Rows → Rows
remaining hs [] = []
remaining hs (e ∷ es) = put_remaining e.0 (remaining_row hs e.1) (remaining hs es)
