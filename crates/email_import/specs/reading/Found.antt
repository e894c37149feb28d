-- What the code makes of the blob that is sought.
use Rattle.std.specs.Prelude.{ℕ, ◌==◌, ◌&&◌, not, Bool, true, false, nat_lt, if◌then◌else◌, length, Option, Some, None, List, [], ◌∷◌, Result, Ok, Err}
use Rattle.change_list.specs.Advance.{row_at}
use Rattle.mail_maps.specs.Rows.{Rows}
use Rattle.mail_maps.specs.declared.row.EmailRow.{EmailRow}
use Rattle.message_blobs.specs.BlobIds.{BlobRoot, OfEmail, OfUpload}
use Rattle.message_lines.specs.Bodies.{with_crlf}
use Rattle.message_texts.specs.declared.message.TheConstants.{MAX_MESSAGE_OCTETS}
use Rattle.set_jobs.specs.declared.done.SetError.{SetError}
use Rattle.set_jobs.specs.declared.done.SetError.TheVariants as why
use Rattle.email_import.specs.Messages.{is_no_message, no_blob}

abbrev pub is_long_row : Option EmailRow → Bool
is_long_row None = false
is_long_row (Some row) = nat_lt MAX_MESSAGE_OCTETS row.size

-- whether the root is an Email that is too long
abbrev pub is_long_root : Rows → BlobRoot → Bool
is_long_root emails (OfEmail n) = is_long_row (row_at emails n)
is_long_root emails (OfUpload id) = false

-- why the message of an Email that is too long isn't imported
abbrev pub long_error : Bool → SetError
long_error takes = if takes then why.TooLarge else why.Forbidden

-- An LF stands there without a CR before it. `behind_cr` says whether a CR stands before the text.
abbrev pub has_bare : Bool → List ℕ → Bool
has_bare behind_cr [] = false
has_bare behind_cr (c ∷ t) = if c == 10 && not behind_cr then true else has_bare (c == 13) t

abbrev pub has_bare_lf : List ℕ → Bool
has_bare_lf octets = has_bare false octets

-- what a message comes to whose folder takes messages
abbrev pub within_limit : List ℕ → Result (List ℕ) SetError
within_limit message = if nat_lt MAX_MESSAGE_OCTETS (length message) then Err why.TooLarge else Ok message

-- what octets come to that are a message
abbrev pub in_folder : Bool → List ℕ → Result (List ℕ) SetError
in_folder true octets = within_limit (with_crlf octets)
in_folder false octets = Err why.Forbidden

abbrev pub taken : Bool → List ℕ → Result (List ℕ) SetError
taken takes octets = if is_no_message octets then Err no_blob else in_folder takes octets

-- where the blob isn't found, and where it is
abbrev pub with_found : Bool → Option (List ℕ) → Result (List ℕ) SetError
with_found takes None = Err no_blob
with_found takes (Some octets) = taken takes octets
