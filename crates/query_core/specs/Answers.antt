-- What a query answers (RFC 8620 section 5.5, RFC 8621 sections 2.3 and 4.4).
use Rattle.std.specs.Prelude.{◌≡◌, ℕ, List, Bool, true, length, codes, if◌then◌else◌, Option, Some, None, option_map, Result, Ok, Err}
use Rattle.std.specs.Option.{option_and_then}
use Rattle.serde_json.specs.Data.{unsigned, Data, boolean, number, string, object, Members, no_members, member}
use Rattle.jmap_arguments.specs.Arguments.{account_id}
use Rattle.jmap_arguments.specs.Ids.{email_letter, mailbox_letter, id_list}
use Rattle.jmap_arguments.specs.declared.method_error.MethodError.{MethodError}
use Rattle.jmap_arguments.specs.declared.method_error.MethodError.TheVariants.{AnchorNotFound}
use Rattle.mail_maps.specs.Serve.{Email, ServedMailbox}
use Rattle.mail_state.specs.History.{MailHistory}
use Rattle.served_types.specs.States.{type_state}
use Rattle.query_arguments.specs.Asked.{QueryMeant, email_query_asked, mailbox_query_asked}
use Rattle.query_arguments.specs.Values.{number_of_id}
use Rattle.query_arguments.specs.declared.asked.AskedPart.{AskedPart}
use Rattle.query_lists.specs.Windows.{WindowPart, window_of}
use Rattle.query_lists.specs.declared.window.WindowStart.{WindowStart}
use Rattle.query_lists.specs.declared.window.WindowStart.TheVariants.{Position, Anchor}
use Rattle.query_core.specs.Lists.{IsEmailList, IsMailboxList, reads_record_alone}

-- ---- the part of the list

-- an anchor that is no id is in no list
abbrev pub anchor_start : ℕ → List ℕ → AskedPart → Option WindowStart
anchor_start letter anchor part = option_map (λ number. Anchor number part.offset) (number_of_id letter anchor)

-- where an anchor is given, the position is passed over
abbrev pub start_asked : ℕ → Option (List ℕ) → AskedPart → Option WindowStart
start_asked letter None part = Some (Position part.position)
start_asked letter (Some anchor) part = anchor_start letter anchor part

abbrev pub part_of : ℕ → List ℕ → AskedPart → Option WindowPart
part_of letter list part = option_and_then (λ start. window_of list (record { start = start; limit = part.limit })) (start_asked letter part.anchor part)

-- ---- the answer

abbrev pub total_if : Bool → ℕ → Members
total_if counts total = if counts then member (codes "total") (number (unsigned total)) no_members else no_members

abbrev pub query_data : ℕ → List ℕ → Bool → List ℕ → Bool → WindowPart → Data
query_data letter state calculable list counts part = object
    (member (codes "accountId") (string account_id)
    (member (codes "canCalculateChanges") (boolean calculable)
    (member (codes "ids") (id_list letter part.numbers)
    (member (codes "position") (number (unsigned part.start))
    (member (codes "queryState") (string state)
    (total_if counts (length list)))))))

module _ {C S : Type 0} where
  -- A refusal by the arguments; or the anchor isn't in the list; or the part of the list that is asked.
  pub data AnswersQuery (letter : ℕ) (state : List ℕ) (calculable : QueryMeant C S → Bool) (IsList : QueryMeant C S → List ℕ → Type 0)
      (asked : Result (QueryMeant C S) MethodError) : Result Data MethodError → Type 0 where
    Refused : (e : MethodError) → asked ≡ Err e → AnswersQuery letter state calculable IsList asked (Err e)
    NoAnchor : (q : QueryMeant C S) (list : List ℕ) → asked ≡ Ok q → IsList q list → part_of letter list q.part ≡ None
        → AnswersQuery letter state calculable IsList asked (Err AnchorNotFound)
    Answered : (q : QueryMeant C S) (list : List ℕ) (part : WindowPart) → asked ≡ Ok q → IsList q list → part_of letter list q.part ≡ Some part
        → AnswersQuery letter state calculable IsList asked (Ok (query_data letter state (calculable q) list q.counts part))

-- of this mail, in this state of the type
abbrev pub AnswersEmailQuery : List ℕ → List (ℕ × Email) → Data → Result Data MethodError → Type 0
AnswersEmailQuery state emails d =
    AnswersQuery email_letter state (λ q. reads_record_alone q.list) (λ q. IsEmailList emails q.list) (email_query_asked d)

abbrev pub AnswersMailboxQuery : List ℕ → List (ℕ × ServedMailbox) → Data → Result Data MethodError → Type 0
AnswersMailboxQuery state mailboxes d =
    AnswersQuery mailbox_letter state (λ q. true) (λ q. IsMailboxList mailboxes q.list) (mailbox_query_asked d)

-- ---- over what has become of the mail

abbrev pub RepliesEmailQuery : MailHistory → Data → Result Data MethodError → Type 0
RepliesEmailQuery h = AnswersEmailQuery (type_state h h.emails) h.emails.now

abbrev pub RepliesMailboxQuery : MailHistory → Data → Result Data MethodError → Type 0
RepliesMailboxQuery h = AnswersMailboxQuery (type_state h h.mailboxes) h.mailboxes.now
