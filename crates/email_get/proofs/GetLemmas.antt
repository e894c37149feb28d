-- What an Email/get answers over the rows of a state, and that it has integers alone.
use Rattle.std.proofs.Common.{◌≡◌, ◌∙◌, ℕ, List, [], ◌∷◌, ◌++◌, ◌||◌, map, false, true, Result, Ok, Err, refl, sym, ap, subst}
use Rattle.std.proofs.lemmas.List.{map-append}
use Rattle.std.specs.Map.{keys_of}
use Rattle.serde_json.specs.Data.{Data, string}
use Rattle.serde_json.specs.View.{view, items_of}
use Rattle.serde_json.specs.Written.{has_float, items_have_float}
use Rattle.serde_json.specs.declared.value.Value.{Value}
use Rattle.change_list.proofs.HistoryLaws.{length-entries_from}
use Rattle.email_bodies.specs.Asking.{BodyAsk, AreDue}
use Rattle.email_bodies.proofs.Due.{due_more}
use Rattle.jmap_arguments.specs.Gets.{get_data}
use Rattle.jmap_arguments.specs.State.{state_text}
use Rattle.jmap_arguments.specs.declared.method_error.MethodError.{MethodError}
use Rattle.mail_maps.specs.Rows.{Rows}
use Rattle.mail_state.specs.History.{MailHistory}
use Rattle.mail_state.specs.State.{ServedState, ServedRows, IsStateOf}
use Rattle.served_types.specs.States.{type_state}
use Rattle.email_get.specs.Asked.{FailsAfter}
use Rattle.email_get.specs.EmailGet.{EmailsAsked, emails_asked, ShowsEmail, AnswersEmailGet, Refused, Shown, Fails, RepliesEmailGet}
use Rattle.email_get.specs.Showing.{ShowsAll}
use Rattle.email_get.proofs.Due.{due_email, due_showing}

-- ---- each history

-- the Emails of a state are those of the history
pub same_emails : (s : ServedState) (h : MailHistory) → IsStateOf h s → s.rows.numbered.rows ≡ h.numbered.rows
same_emails s h stands = ap (λ (rows : ServedRows). rows.numbered.rows) stands.rows

-- the state of Emails, as a text
abbrev pub emails_text : ServedState → List ℕ
emails_text s = state_text (record { epoch = s.epoch; place = s.lists.email.place })

same_text : (s : ServedState) (h : MailHistory) → IsStateOf h s → emails_text s ≡ type_state h h.emails
same_text s h stands =
    ap (λ (n : ℕ). state_text (record { epoch = n; place = s.lists.email.place })) stands.epoch
    ∙ ap (λ (n : ℕ). state_text (record { epoch = h.epoch; place = n })) (stands.emails.kept.place ∙ length-entries_from _ h.emails.touches)

pub get_over_history : (s : ServedState) (h : MailHistory) (d : Data) (asks : List BodyAsk) (r : Result Data MethodError) → IsStateOf h s
    → AnswersEmailGet (emails_text s) s.rows.numbered.rows d asks r → RepliesEmailGet h d asks r
get_over_history s h d asks r stands is =
    let P : List ℕ → Type 0 = λ text. AnswersEmailGet text h.numbered.rows d asks r in
    let Q : Rows → Type 0 = λ rows. AnswersEmailGet (emails_text s) rows d asks r in
    subst P (same_text s h stands) (subst Q (same_emails s h stands) is)

-- ---- an Email/get

module _ (s : ServedState) (d : Data) where
  -- it is refused
  pub get_refused : (e : MethodError) → emails_asked (keys_of s.rows.numbered.rows) d ≡ Err e → (h : MailHistory) → IsStateOf h s → RepliesEmailGet h d [] (Err e)
  get_refused e is h stands = get_over_history s h d [] (Err e) stands (Refused e is)

  -- a body didn't come
  pub get_fails : (a : EmailsAsked) (numbers : List ℕ) (e : MethodError) (asks : List BodyAsk) → emails_asked (keys_of s.rows.numbered.rows) d ≡ Ok a → numbers ≡ a.asked.numbers
      → ShowsAll (ShowsEmail s.rows.numbered.rows a.wanted) numbers asks (Err e) → (h : MailHistory) → IsStateOf h s → RepliesEmailGet h d asks (Err e)
  get_fails a numbers e asks is same shows h stands =
      let P : List ℕ → Type 0 = λ ns. ShowsAll (ShowsEmail s.rows.numbered.rows a.wanted) ns asks (Err e) in
      get_over_history s h d asks (Err e) stands (Fails a e is (subst P same shows))

  -- what was asked for the Emails is due
  pub get_due : (a : EmailsAsked) (numbers : List ℕ) (asks : List BodyAsk) → emails_asked (keys_of s.rows.numbered.rows) d ≡ Ok a → numbers ≡ a.asked.numbers
      → (r : Result (List Data) MethodError) → ShowsAll (ShowsEmail s.rows.numbered.rows a.wanted) numbers asks r
      → AreDue (FailsAfter (λ (l : List BodyAsk) (r : Result Data MethodError). (h : MailHistory) → IsStateOf h s → RepliesEmailGet h d l r)) asks
  get_due a numbers asks is same r shows =
      due_more (FailsAfter (ShowsAll (ShowsEmail s.rows.numbered.rows a.wanted) numbers))
      (FailsAfter (λ (l : List BodyAsk) (r : Result Data MethodError). (h : MailHistory) → IsStateOf h s → RepliesEmailGet h d l r)) asks
      (λ l fails. (fails.0, get_fails a numbers fails.0 l is same fails.1))
      (due_showing (ShowsEmail s.rows.numbered.rows a.wanted) (due_email s.rows.numbered.rows a.wanted) numbers asks r shows)

  -- the Emails are shown
  pub get_shown : (a : EmailsAsked) (numbers : List ℕ) (list : List Data) (reply : Data) (asks : List BodyAsk) → emails_asked (keys_of s.rows.numbered.rows) d ≡ Ok a
      → numbers ≡ a.asked.numbers → reply ≡ get_data (emails_text s) list (map string a.asked.missing)
      → ShowsAll (ShowsEmail s.rows.numbered.rows a.wanted) numbers asks (Ok list) → (h : MailHistory) → IsStateOf h s → RepliesEmailGet h d asks (Ok reply)
  get_shown a numbers list reply asks is same reply_is shows h stands =
      let P : List ℕ → Type 0 = λ ns. ShowsAll (ShowsEmail s.rows.numbered.rows a.wanted) ns asks (Ok list) in
      let Q : Data → Type 0 = λ r. RepliesEmailGet h d asks (Ok r) in
      subst Q (sym reply_is) (get_over_history s h d asks (Ok (get_data (emails_text s) list (map string a.asked.missing))) stands (Shown a list is (subst P same shows)))

-- ---- objects in a list

-- one more
pub seen-add : (list next : List Value) (object : Value) → next ≡ list ++ object ∷ [] → map view next ≡ map view list ++ view object ∷ []
seen-add list next object more = ap (λ (l : List Value). map view l) more ∙ map-append view list (object ∷ [])

-- none
pub none_seen : (list : List Value) → list ≡ [] → map view list ≡ []
none_seen list none = ap (λ (l : List Value). map view l) none

-- ---- integers alone

add_whole : (ds : List Data) (d : Data) → items_have_float (items_of ds) ≡ false → has_float d ≡ false → items_have_float (items_of (ds ++ d ∷ [])) ≡ false
add_whole [] d rest one = rw one refl
add_whole (e ∷ es) d rest one = elim (has_float e) as (λ b. (b || items_have_float (items_of es)) ≡ false → (b || items_have_float (items_of (es ++ d ∷ []))) ≡ false) [
  | true ↦ λ is. is
  | false ↦ λ is. add_whole es d is one
] rest

-- one object more has them
pub more_whole : (list next : List Value) (object : Value) → next ≡ list ++ object ∷ [] → items_have_float (items_of (map view list)) ≡ false → has_float (view object) ≡ false
    → items_have_float (items_of (map view next)) ≡ false
more_whole list next object more rest one = ap (λ (ds : List Data). items_have_float (items_of ds)) (seen-add list next object more) ∙ add_whole (map view list) (view object)
    rest one

pub none_whole : (list : List Value) → list ≡ [] → items_have_float (items_of (map view list)) ≡ false
none_whole list none = ap (λ (l : List Value). items_have_float (items_of (map view l))) none

texts_whole : (texts : List (List ℕ)) → items_have_float (items_of (map string texts)) ≡ false
texts_whole [] = refl
texts_whole (text ∷ texts) = texts_whole texts

-- the answer has
pub get_whole : (state : List ℕ) (list : List Data) (missing : List (List ℕ)) (d : Data) → d ≡ get_data state list (map string missing) → items_have_float (items_of list) ≡ false
    → has_float d ≡ false
get_whole state list missing d is whole = ap has_float is ∙ rw (whole, texts_whole missing) refl
