-- The states that calls name, and what the rows of a state serve, over each history that the state stands for.
use Rattle.std.proofs.Common.{◌≡◌, ◌≢◌, ◌<◌, ◌^◌, ◌==◌, ℕ, true, false, List, refl, sym, ap, ◌∙◌, subst, eqb-true, eq-eqb}
use Rattle.std.specs.Bool.{one_answer}
use Rattle.std.specs.Str.{bytes_eq}
use Rattle.std.proofs.lemmas.List.Elements.{All-weaker}
use Rattle.std.proofs.lemmas.Slice.Eq.{bytes_eq-Decides}
use Rattle.change_list.proofs.HistoryLaws.{length-entries_from}
use Rattle.jmap_arguments.specs.State.{state_text}
use Rattle.mail_maps.specs.Rows.{Rows}
use Rattle.mail_maps.specs.Serve.{ServedMailbox}
use Rattle.mail_maps.specs.declared.row.EmailRow.{EmailRow}
use Rattle.mail_state.specs.History.{MailHistory}
use Rattle.mail_state.specs.LookUps.{touches_kept}
use Rattle.mail_state.specs.Sound.{IsRowOf}
use Rattle.mail_state.specs.State.{IsStateOf, ServedState}
use Rattle.set_replies.specs.States.{place_of}
use Rattle.set_replies.specs.Lists.{Served}
use Rattle.set_replies.specs.Replies.{served_after}
use Rattle.set_arguments.specs.declared.set_method.SetMethod.{SetMethod}
use Rattle.set_arguments.specs.declared.set_method.SetMethod.TheVariants.{EmailSet, MailboxSet, EmailImport}
use Rattle.set_replies.specs.reading.Types.{AreApart, served_in, type_of}

abbrev text_at : ℕ → ℕ → List ℕ
text_at epoch place = state_text (record { epoch = epoch; place = place })

-- a text that is read as a place is that of this place where they are one
pub state_named : (epoch named place : ℕ) (text : List ℕ) → place < 2 ^ 64 → text ≡ text_at epoch named
    → ((p : ℕ) → p < 2 ^ 64 → text ≡ text_at epoch p → p ≡ named) → (named == place) ≡ bytes_eq text (text_at epoch place)
state_named epoch named place text small is one =
    one_answer {P = named ≡ place} (named == place) (bytes_eq text (text_at epoch place)) (eqb-true named place, eq-eqb named place) (
      λ same. sym (one place small ((bytes_eq-Decides text (text_at epoch place)).0 same)),
      λ at. (bytes_eq-Decides text (text_at epoch place)).1 (is ∙ ap (text_at epoch) at),
    )

-- one that is read as none is that of none
pub none_named : (epoch place : ℕ) (text : List ℕ) → place < 2 ^ 64 → ((p : ℕ) → p < 2 ^ 64 → text ≢ text_at epoch p) → false ≡ bytes_eq text (text_at epoch place)
none_named epoch place text small none =
    elim (bytes_eq text (text_at epoch place)) as (λ b. bytes_eq text (text_at epoch place) ≡ b → false ≡ b) [
      | true ↦ λ is. absurd (none place small ((bytes_eq-Decides text (text_at epoch place)).0 is))
      | false ↦ λ is. refl
    ] refl

-- the place of a list is that of the type in the history
pub place_is : (m : SetMethod) (h : MailHistory) (s : ServedState) → IsStateOf h s → (touches_kept s (type_of m)).place ≡ place_of m h
place_is EmailSet h s of = of.emails.kept.place ∙ length-entries_from _ h.emails.touches
place_is MailboxSet h s of = of.mailboxes.kept.place ∙ length-entries_from _ h.mailboxes.touches
place_is EmailImport h s of = of.emails.kept.place ∙ length-entries_from _ h.emails.touches

-- the rows serve what the history has
pub served_is : (h : MailHistory) (s : ServedState) → IsStateOf h s → served_in s ≡ served_after h
served_is h s of =
    let P : Rows → List (ℕ × ServedMailbox) → Served = λ emails mailboxes. record { emails = emails; mailboxes = mailboxes } in
    ap (λ (rows : Rows). P rows (served_in s).mailboxes) (ap (λ r. r.numbered.rows) of.rows) ∙ ap (P h.numbered.rows) of.mailboxes.now

-- each mark is of one row, which knows its number
pub apart : (h : MailHistory) (s : ServedState) → IsStateOf h s → AreApart s.rows.numbered.rows
apart h s of =
    let rows_are : s.rows.numbered.rows ≡ h.numbered.rows = ap (λ r. r.numbered.rows) of.rows in
    subst AreApart (sym rows_are) (record {
      ascending = of.sound.ascending;
      marks = of.sound.marks;
      numbers = All-weaker (IsRowOf h.mail.folders) (λ (e : ℕ × EmailRow). e.1.number ≡ e.0) (λ e row. row.number) h.numbered.rows of.sound.rows;
    })
