-- Email/get (RFC 8621 section 4.2).
use Rattle.std.specs.Prelude.{◌≡◌, ℕ, true, false, List, [], ◌∷◌, map, Option, Some, None, Result, Ok, Err}
use Rattle.std.specs.Map.{keys_of}
use Rattle.serde_json.specs.Data.{Data, string}
use Rattle.change_list.specs.Advance.{row_at}
use Rattle.email_bodies.specs.Asking.{BodyAsk}
use Rattle.email_objects.specs.EmailObjects.{IsEmailObject}
use Rattle.email_properties.specs.Wanted.{EmailAsked, email_wanted_in, needs_body}
use Rattle.email_properties.specs.declared.defaults.Defaults.TheVariants.{Get}
use Rattle.jmap_arguments.specs.Gets.{GetAsked, NumbersAsked, get_asked, numbers_asked, get_data}
use Rattle.jmap_arguments.specs.Ids.{email_letter}
use Rattle.jmap_arguments.specs.Outcome.{refusal_of}
use Rattle.jmap_arguments.specs.declared.method_error.MethodError.{MethodError}
use Rattle.jmap_arguments.specs.declared.method_error.MethodError.TheVariants.{ServerUnavailable}
use Rattle.mail_maps.specs.Rows.{Rows}
use Rattle.mail_maps.specs.declared.row.EmailRow.{EmailRow}
use Rattle.mail_state.specs.History.{MailHistory}
use Rattle.served_types.specs.States.{type_state}
use Rattle.email_get.specs.Asked.{ask_for}
use Rattle.email_get.specs.Showing.{ShowsAll}

-- ---- what is asked, or the first refusal

abbrev pub get_emails_asked : Data → Result (GetAsked EmailAsked) MethodError
get_emails_asked d = get_asked (email_wanted_in Get d) d

-- the refusal by the arguments alone
abbrev pub get_emails_refused : Data → Result (Unit {0}) MethodError
get_emails_refused d = refusal_of (get_emails_asked d)

-- the Emails that are asked, and what of each
pub record EmailsAsked : Type 0 where
  pub asked : NumbersAsked
  pub wanted : EmailAsked

abbrev pub with_wanted : EmailAsked → Result NumbersAsked MethodError → Result EmailsAsked MethodError
with_wanted wanted (Ok asked) = Ok (record { asked = asked; wanted = wanted })
with_wanted wanted (Err e) = Err e

abbrev pub emails_from : List ℕ → Result (GetAsked EmailAsked) MethodError → Result EmailsAsked MethodError
emails_from numbers (Ok a) = with_wanted a.wanted (numbers_asked email_letter numbers a.ids)
emails_from numbers (Err e) = Err e

-- of Emails with these numbers
abbrev pub emails_asked : List ℕ → Data → Result EmailsAsked MethodError
emails_asked numbers d = emails_from numbers (get_emails_asked d)

-- ---- objects

-- The body of an Email, which is asked exactly where a property that is wanted needs it.
pub data AsksBody (wanted : EmailAsked) (row : EmailRow) : List BodyAsk → Result (Option (List ℕ)) MethodError → Type 0 where
  NotNeeded : needs_body wanted ≡ false → AsksBody wanted row [] (Ok None)
  Comes : (octets : List ℕ) → needs_body wanted ≡ true → AsksBody wanted row (ask_for row (Some octets) ∷ []) (Ok (Some octets))
  Lacks : needs_body wanted ≡ true → AsksBody wanted row (ask_for row None ∷ []) (Err ServerUnavailable)

-- an Email as an object
pub data ShowsRow (wanted : EmailAsked) (row : EmailRow) : List BodyAsk → Result Data MethodError → Type 0 where
  AsObject : {asks : List BodyAsk} (body : Option (List ℕ)) (object : Data) → AsksBody wanted row asks (Ok body) → IsEmailObject row body wanted object
      → ShowsRow wanted row asks (Ok object)
  NoBody : {asks : List BodyAsk} (e : MethodError) → AsksBody wanted row asks (Err e) → ShowsRow wanted row asks (Err e)

-- the Email of a number
pub record ShowsEmail (emails : Rows) (wanted : EmailAsked) (n : ℕ) (asks : List BodyAsk) (object : Result Data MethodError) : Type 0 where
  pub row : EmailRow
  pub there : row_at emails n ≡ Some row
  pub shows : ShowsRow wanted row asks object

-- ---- the answer

-- of these Emails, in this state
pub data AnswersEmailGet (state : List ℕ) (emails : Rows) (d : Data) : List BodyAsk → Result Data MethodError → Type 0 where
  Refused : (e : MethodError) → emails_asked (keys_of emails) d ≡ Err e → AnswersEmailGet state emails d [] (Err e)
  Shown : {asks : List BodyAsk} (a : EmailsAsked) (list : List Data) → emails_asked (keys_of emails) d ≡ Ok a
      → ShowsAll (ShowsEmail emails a.wanted) a.asked.numbers asks (Ok list) → AnswersEmailGet state emails d asks
      (Ok (get_data state list (map string a.asked.missing)))
  Fails : {asks : List BodyAsk} (a : EmailsAsked) (e : MethodError) → emails_asked (keys_of emails) d ≡ Ok a
      → ShowsAll (ShowsEmail emails a.wanted) a.asked.numbers asks (Err e) → AnswersEmailGet state emails d asks (Err e)

-- over what has become of the mail
abbrev pub RepliesEmailGet : MailHistory → Data → List BodyAsk → Result Data MethodError → Type 0
RepliesEmailGet h = AnswersEmailGet (type_state h h.emails) h.numbered.rows
