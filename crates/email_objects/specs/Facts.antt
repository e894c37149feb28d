-- What is told of an Email beside its body.
use Rattle.std.specs.Prelude.{ℕ, List, length, Option, Some, None}
use Rattle.mail_header.specs.Fields.{NameAndRaw}
use Rattle.mail_maps.specs.declared.row.EmailRow.{EmailRow}
use Rattle.message_blobs.specs.BlobIds.{OfEmail, root_text}
use Rattle.body_parts.specs.Messages.{MessageData}

-- The row of the Email, the blob id and the size of its message, and the fields of the header. Octets that are no Email (RFC 8621 section 4.9)
-- have no row.
pub record FactsData : Type 0 where
  pub row : Option EmailRow
  pub blob_id : Option (List ℕ)
  pub size : ℕ
  pub fields : List NameAndRaw

-- the blob id of an Email's message
abbrev pub row_blob_id : EmailRow → List ℕ
row_blob_id row = root_text (OfEmail row.number)

-- of an Email
abbrev pub row_facts : EmailRow → List NameAndRaw → FactsData
row_facts row fields = record { row = Some row; blob_id = Some (row_blob_id row); size = row.size; fields = fields }

-- of octets that are no Email, with the blob id that they have
abbrev pub message_facts : Option (List ℕ) → MessageData → List NameAndRaw → FactsData
message_facts blob_id m fields = record { row = None; blob_id = blob_id; size = length m.octets; fields = fields }

-- an Email's message with these octets
abbrev pub row_message : EmailRow → List ℕ → MessageData
row_message row octets = record { octets = octets; id = Some (row_blob_id row) }
