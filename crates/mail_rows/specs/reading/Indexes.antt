-- What is kept beside the rows: the number of each mark, and the book of Threads.
use Rattle.std.specs.Prelude.{◌≡◌, ℕ, zero, suc, ◌+◌, ◌<◌, ◌==◌, List, [], ◌∷◌, ◌++◌, if◌then◌else◌, Option, Some, None}
use Rattle.std.specs.BTreeMap.{BTreeMap, get, is_at}
use Rattle.std.specs.Map.{remove_entry}
use Rattle.std.specs.Ordering.{nat_cmp}
use Rattle.thread_rule.specs.Threads.{Members}
use Rattle.mail_maps.specs.Rows.{Rows}
use Rattle.mail_maps.specs.declared.row.EmailRow.{EmailRow}
use Rattle.mail_maps.specs.declared.envelope.Envelope.{Envelope}
use Rattle.mail_maps.specs.Envelope.{IsEnvelopeOf}
use Rattle.mail_maps.specs.Visible.{Placed}
use Rattle.mail_rows.specs.NumberedRows.{NumberedRows, AreBelow}
use Rattle.mail_rows.specs.Joining.{members_of}
use Rattle.mail_rows.specs.Taking.{AreEnvelopes, with_row, with_rows}
use Rattle.mail_rows.specs.declared.remaining.RemovedEmail.{RemovedEmail}

-- the number of the last row with the mark
abbrev pub number_after : Option ℕ → Rows → ℕ → Option ℕ
number_after was [] mark = was
number_after was (e ∷ es) mark = number_after (if e.1.mark == mark then Some e.0 else was) es mark

abbrev pub number_of : Rows → ℕ → Option ℕ
number_of rows mark = number_after None rows mark

pub record AreIndexes (rows : Rows) (next : ℕ) (marks : BTreeMap ℕ ℕ) (book : Members) : Type 0 where
  pub below : AreBelow next rows
  pub marks_are : (q : ℕ) → get nat_cmp marks q ≡ number_of rows q
  pub book_is : book ≡ members_of rows

-- ---- what the indexes have after Emails go

abbrev pub number_left : List RemovedEmail → ℕ → Option ℕ → Option ℕ
number_left [] q o = o
number_left (g ∷ gs) q o = number_left gs q (if g.mark == q then None else o)

abbrev pub members_left : List RemovedEmail → Members → Members
members_left [] ms = ms
members_left (g ∷ gs) ms = members_left gs (remove_entry (is_at (nat_cmp g.number)) ms)

-- ---- new Emails

-- the rows become these as the messages are taken in, each with its envelope
pub record AddsRows (before : NumberedRows) (ps : List Placed) (after : NumberedRows) : Type 0 where
  pub envelopes : List Envelope
  pub are_read : AreEnvelopes ps envelopes
  pub after_is : after ≡ with_rows before ps envelopes

-- the same of one message
pub record AddsRow (before : NumberedRows) (p : Placed) (after : NumberedRows) : Type 0 where
  pub envelope : Envelope
  pub is_read : IsEnvelopeOf p.message.header envelope
  pub after_is : after ≡ with_row before p envelope

-- the n numbers from this one on
abbrev pub numbers_from : ℕ → ℕ → List ℕ
numbers_from first zero = []
numbers_from first (suc n) = first ∷ numbers_from (first + 1) n

abbrev pub with_last : NumberedRows → EmailRow → NumberedRows
with_last n row = record { rows = n.rows ++ (n.next, row) ∷ []; next = n.next + 1 }
