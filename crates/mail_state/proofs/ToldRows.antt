-- Where exchanges tell, each Email has the header, date and size of its message.
use Rattle.std.proofs.Common.{◌≡◌, ℕ, List, [], ◌∷◌, ◌++◌, refl, sym, ap, ◌∙◌, subst, fold, Option, Some, None, All}
use Rattle.std.specs.Option.{option_map}
use Rattle.std.proofs.lemmas.List.Elements.{All-nil, All-cons, All-head, All-tail}
use Rattle.told_folder.specs.declared.exchange.Exchange.{Exchange}
use Rattle.told_folder.specs.declared.message.NumberedFolder.{NumberedFolder}
use Rattle.told_mail.specs.Mail.{Mail, IsMail}
use Rattle.told_changes.specs.Told.{told}
use Rattle.mail_maps.specs.declared.row.EmailRow.{EmailRow}
use Rattle.mail_maps.specs.declared.envelope.Envelope.{Envelope}
use Rattle.mail_maps.specs.Rows.{Rows}
use Rattle.mail_maps.specs.Visible.{Placed, shown}
use Rattle.mail_rows.specs.NumberedRows.{NumberedRows}
use Rattle.mail_rows.specs.Remaining.{updated, put_remaining, remaining}
use Rattle.mail_rows.specs.Taking.{TakesMail, left, arrivals, with_row, with_rows, new_row}
use Rattle.mail_rows.proofs.VisibleLemmas.{AllSeen, IsVisibleOf, visible_of}
use Rattle.mail_state.specs.History.{MailHistory}
use Rattle.mail_state.specs.Sound.{IsSound}
use Rattle.mail_state.specs.Telling.{HasItsMessage, IsSameMessage, IsTold, Begins, Goes}
use Rattle.mail_state.proofs.MarkLemmas.{arrivals_seen}
use Rattle.mail_state.proofs.SoundLemmas.{advances_keep_sound, first_is_sound}
use Rattle.mail_state.proofs.ChangeLemmas.{all_next}
use Rattle.mail_state.proofs.ValidityLemmas.{one_message}

abbrev AllHave : List NumberedFolder → Rows → Type 0
AllHave hs [] = Unit {0}
AllHave hs (e ∷ es) = HasItsMessage hs e × AllHave hs es

to_each : (hs : List NumberedFolder) (rows : Rows) → All (HasItsMessage hs) rows → AllHave hs rows
to_each hs [] a = tt
to_each hs (e ∷ rows) a = (All-head (HasItsMessage hs) e rows a, to_each hs rows (All-tail (HasItsMessage hs) e rows a))

from_each : (hs : List NumberedFolder) (rows : Rows) → AllHave hs rows → All (HasItsMessage hs) rows
from_each hs [] a = All-nil (HasItsMessage hs)
from_each hs (e ∷ rows) a = All-cons (HasItsMessage hs) e rows a.0 (from_each hs rows a.1)

joined : (hs : List NumberedFolder) (a b : Rows) → AllHave hs a → AllHave hs b → AllHave hs (a ++ b)
joined hs [] b f g = g
joined hs (e ∷ a) b f g = (f.0, joined hs a b f.1 g)

-- ---- what remains

module _ (m : Mail) (xs : List Exchange) (is : IsMail m) (is_now : IsMail (fold told m xs)) where
  put_have : (e : ℕ × EmailRow) (o : Option Placed) (more : Rows) → shown (fold told m xs).folders e.1.mark ≡ o → HasItsMessage m.folders e
      → AllHave (fold told m xs).folders more → AllHave (fold told m xs).folders (put_remaining e.0 (option_map (updated e.1) o) more)
  put_have e None more there own have = have
  put_have e (Some p) more there own have =
      let seen : IsVisibleOf (fold told m xs).folders e.1.mark p = visible_of (fold told m xs) e.1.mark p is_now there in
      let same : IsSameMessage own.message p.message =
      one_message m xs (e.1.folder, e.1.uid) (p.folder, p.message.uid) own.message p.message is own.there seen.seen.at (seen.marked ∙ own.mark) in (
        (record {
          message = p.message;
          there = seen.seen.at;
          mark = sym seen.marked;
          header = own.header ∙ sym same.header;
          date = own.date ∙ sym same.date;
          size = own.size ∙ sym same.size;
        }),
        have,
      )

  remaining_have : (rows : Rows) → AllHave m.folders rows → AllHave (fold told m xs).folders (remaining (fold told m xs).folders rows)
  remaining_have [] have = tt
  remaining_have (e ∷ rows) have =
      put_have e (shown (fold told m xs).folders e.1.mark) (remaining (fold told m xs).folders rows) refl have.0 (remaining_have rows have.1)

-- ---- what comes

all_have : (hs : List NumberedFolder) (n : NumberedRows) (ps : List Placed) (es : List Envelope) → AllHave hs n.rows → AllSeen hs ps → AllHave hs (with_rows n ps es).rows
all_have hs n [] es have seen = have
all_have hs n (p ∷ ps) [] have seen = have
all_have hs n (p ∷ ps) (e ∷ es) have seen =
    all_have hs (with_row n p e) ps es
    (joined hs n.rows ((n.next, new_row n p e) ∷ []) have
    ((record { message = p.message; there = seen.0.at; mark = refl; header = refl; date = refl; size = refl }), tt))
    seen.1

rows_have : (m : Mail) (xs : List Exchange) (n after : NumberedRows) → IsMail m → AllHave m.folders n.rows → TakesMail n (fold told m xs).folders after
    → AllHave (fold told m xs).folders after.rows
rows_have m xs n after is have takes =
    let now : Mail = fold told m xs in
    let is_now : IsMail now = (all_next m xs is).is_mail in
    let P : NumberedRows → Type 0 = λ x. AllHave now.folders x.rows in
    subst P (sym takes.after_is)
    (all_have now.folders (left n now.folders) (arrivals n now.folders) takes.envelopes (remaining_have m xs is is_now n.rows have) (arrivals_seen now n is_now))

-- ---- histories

told_sound : (h : MailHistory) → IsTold h → IsSound h
told_sound _ (Begins epoch) = first_is_sound epoch
told_sound _ (Goes h after xs before a) =
    let sound : IsSound h = told_sound h before in
    advances_keep_sound h after (fold told h.mail xs) sound (all_next h.mail xs sound.is_mail) a

each_has : (h : MailHistory) → IsTold h → AllHave h.mail.folders h.numbered.rows
each_has _ (Begins epoch) = tt
each_has _ (Goes h after xs before a) =
    let P : Mail → Type 0 = λ x. AllHave x.folders after.numbered.rows in
    subst P (sym (ap (λ (x : MailHistory). x.mail) a.after_is))
    (rows_have h.mail xs h.numbered after.numbered (told_sound h before).is_mail (each_has h before) a.takes)

-- each Email of what exchanges told has its message
pub all_have_their_messages : (h : MailHistory) → IsTold h → All (HasItsMessage h.mail.folders) h.numbered.rows
all_have_their_messages h is = from_each h.mail.folders h.numbered.rows (each_has h is)
