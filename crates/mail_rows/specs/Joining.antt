-- The Thread of a new Email, sought among the Emails that are there (RFC 8621 section 3).
use Rattle.std.specs.Prelude.{ℕ, List, [], ◌∷◌, Bool, ◌&&◌, if◌then◌else◌, map, Option, Some, None}
use Rattle.std.specs.Option.{unwrap_or}
use Rattle.text_words.specs.Octets.{is_same_text}
use Rattle.thread_rule.specs.declared.member.Member.{Member}
use Rattle.thread_rule.specs.Threads.{Members, is_among}
use Rattle.mail_maps.specs.declared.row.EmailRow.{EmailRow}
use Rattle.mail_maps.specs.declared.envelope.Envelope.{Envelope}
use Rattle.mail_maps.specs.Rows.{Rows}
use Rattle.mail_rows.specs.NumberedRows.{NumberedRows}

-- an Email as a member of its Thread
abbrev pub row_member : EmailRow → Member
row_member row = record { ids = row.envelope.ids; base = row.envelope.base; thread = row.thread }

abbrev pub members_of : Rows → Members
members_of rows = map {B = ℕ × Member} (λ (e : ℕ × EmailRow). (e.0, row_member e.1)) rows

-- whether the Email names the id, and has an equal base subject
abbrev pub shares : List ℕ → List ℕ → Member → Bool
shares base id m = is_among m.ids id && is_same_text m.base base

-- the Thread of the lowest Email that does
abbrev pub first_shared : List ℕ → List ℕ → Members → Option ℕ
first_shared base id [] = None
first_shared base id (e ∷ es) = if shares base id e.1 then Some e.1.thread else first_shared base id es

-- of these ids the first that such an Email names decides, and without one the Email founds the Thread of its own number
abbrev pub thread_in : Members → List ℕ → ℕ → List (List ℕ) → ℕ
thread_in members base number [] = number
thread_in members base number (id ∷ ids) = unwrap_or (first_shared base id members) (thread_in members base number ids)

-- the Thread of the next Email, which has this envelope
abbrev pub thread_for : NumberedRows → Envelope → ℕ
thread_for n e = thread_in (members_of n.rows) e.base n.next e.ids
