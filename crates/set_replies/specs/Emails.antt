-- What a reply says of Emails (RFC 8621 section 4.6).
use Rattle.std.specs.Prelude.{ℕ, ◌==◌, List, find, codes, if◌then◌else◌, Option, Some, None}
use Rattle.serde_json.specs.Data.{unsigned, Data, null, number, object, no_members, member}
use Rattle.email_objects.specs.Properties.{keywords_data}
use Rattle.jmap_arguments.specs.Ids.{id_data, email_letter, thread_letter}
use Rattle.mail_maps.specs.Rows.{Rows}
use Rattle.mail_maps.specs.Serve.{same_names}
use Rattle.mail_maps.specs.declared.row.EmailRow.{EmailRow}
use Rattle.set_replies.specs.declared.emails.TheConstants.{BLOB_LETTER}

-- the Email of a mark, with its number
abbrev pub row_of_mark : Rows → ℕ → Option (ℕ × EmailRow)
row_of_mark rows mark = find (λ (e : ℕ × EmailRow). e.1.mark == mark) rows

-- An Email that was made, with what a client can't know of it. The id of its blob is `r` and its number.
abbrev pub made_data : ℕ → ℕ × EmailRow → Data
made_data size e = object
    (member (codes "blobId") (id_data BLOB_LETTER e.0)
    (member (codes "id") (id_data email_letter e.0)
    (member (codes "size") (number (unsigned size))
    (member (codes "threadId") (id_data thread_letter e.1.thread)
    no_members))))

-- the keywords, where the Email is there and they aren't those that were asked
abbrev pub came_out : List (List ℕ) → Option EmailRow → Data
came_out asked None = null
came_out asked (Some row) = if same_names asked row.keywords then null else object (member (codes "keywords") (keywords_data (Some row)) no_members)
