-- What becomes of the Emails as the mail changes: some remain, and what is newly visible becomes new Emails.
use Rattle.std.specs.Prelude.{◌≡◌, ℕ, ◌+◌, List, [], ◌∷◌, ◌++◌, Bool, not, filter, fold}
use Rattle.std.specs.List.{AllZip, zip}
use Rattle.told_folder.specs.declared.message.NumberedFolder.{NumberedFolder}
use Rattle.mail_maps.specs.declared.row.EmailRow.{EmailRow}
use Rattle.mail_maps.specs.declared.envelope.Envelope.{Envelope}
use Rattle.mail_maps.specs.Envelope.{IsEnvelopeOf}
use Rattle.mail_maps.specs.Keywords.{keywords_of}
use Rattle.mail_maps.specs.Rows.{Rows}
use Rattle.mail_maps.specs.Visible.{Placed, visible}
use Rattle.mail_rows.specs.NumberedRows.{NumberedRows, knows}
use Rattle.mail_rows.specs.Remaining.{remaining}
use Rattle.mail_rows.specs.Joining.{thread_for}

-- ---- new Emails

-- the message has no row
abbrev pub is_newcomer : Rows → Placed → Bool
is_newcomer rows p = not (knows rows p.message.mark)

-- the visible messages without a row, by folder number and then UID
abbrev pub newcomers : List NumberedFolder → Rows → List Placed
newcomers hs rows = filter (is_newcomer rows) (visible hs)

-- the row of a new Email of this number, in this Thread
abbrev pub row_for : ℕ → ℕ → Placed → Envelope → EmailRow
row_for number thread p e = record {
  number = number;
  mark = p.message.mark;
  folder = p.folder;
  uid = p.message.uid;
  keywords = keywords_of p.message.flags;
  received = p.message.date;
  size = p.message.size;
  thread = thread;
  header = p.message.header;
  envelope = e;
}

abbrev pub new_row : NumberedRows → Placed → Envelope → EmailRow
new_row n p e = row_for n.next (thread_for n e) p e

abbrev pub with_row : NumberedRows → Placed → Envelope → NumberedRows
with_row n p e = record { rows = n.rows ++ (n.next, new_row n p e) ∷ []; next = n.next + 1 }

-- they get the next numbers in order, each with its envelope; the Thread of each is sought among the rows before it
abbrev pub with_rows : NumberedRows → List Placed → List Envelope → NumberedRows
with_rows n ps es = fold (λ (m : NumberedRows) (pair : Placed × Envelope). with_row m pair.0 pair.1) n (zip ps es)

-- the envelope of each message, from its header
abbrev pub AreEnvelopes : List Placed → List Envelope → Type 0
AreEnvelopes ps es = AllZip (λ (p : Placed) (e : Envelope). IsEnvelopeOf p.message.header e) ps es

-- ---- the whole

-- what remains, before new Emails come
abbrev pub left : NumberedRows → List NumberedFolder → NumberedRows
left n hs = record { rows = remaining hs n.rows; next = n.next }

-- the messages that become new Emails
abbrev pub arrivals : NumberedRows → List NumberedFolder → List Placed
arrivals n hs = newcomers hs (remaining hs n.rows)

-- what becomes of the rows, where these are the envelopes of the new Emails
abbrev pub taken : NumberedRows → List NumberedFolder → List Envelope → NumberedRows
taken n hs envelopes = with_rows (left n hs) (arrivals n hs) envelopes

-- The rows before become the rows after. The headers of new messages alone are read, and a header has one envelope.
pub record TakesMail (before : NumberedRows) (hs : List NumberedFolder) (after : NumberedRows) : Type 0 where
  pub envelopes : List Envelope
  pub are_read : AreEnvelopes (arrivals before hs) envelopes
  pub after_is : after ≡ taken before hs envelopes
