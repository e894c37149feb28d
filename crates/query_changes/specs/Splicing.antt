-- Why a client may rely on a queryChanges: spliced by it, its list of the state that it named is the list of now.
use Rattle.std.specs.Prelude.{◌≡◌, ℕ, List, Result, Ok}
use Rattle.serde_json.specs.Data.{Data}
use Rattle.change_list.specs.Advance.{row_at}
use Rattle.change_list.specs.History.{entries_of}
use Rattle.jmap_arguments.specs.Ids.{email_letter, mailbox_letter}
use Rattle.jmap_arguments.specs.declared.method_error.MethodError.{MethodError}
use Rattle.mail_state.specs.History.{MailHistory}
use Rattle.served_maps.specs.Past.{Past, had_at}
use Rattle.query_arguments.specs.Asked.{ListMeant, QueryChangesMeant, email_query_changes_asked, mailbox_query_changes_asked}
use Rattle.query_core.specs.Lists.{IsEmailList, IsMailboxList}
use Rattle.query_lists.specs.Splices.{spliced}
use Rattle.query_changes.specs.Changes.{were_there, now_in, FoundChanges, found_data}

module _ {C S V : Type 0} where
  -- what is a list of rows is so for a queryChanges too, of the rows now
  abbrev pub IsListNow : (List (ℕ × V) → ListMeant C S → List ℕ → Type 0) → Past V → QueryChangesMeant C S → List ℕ → Type 0
  IsListNow IsListOf p q list = IsListOf p.now q.list list

  -- The answer tells what was found; and a list of the rows that there were at the place that was named, by the same filter and order, is the list of
  -- now once the ids removed are taken out of it and those added put in.
  pub record BringsListToNow (letter epoch : ℕ) (p : Past V) (IsListOf : List (ℕ × V) → ListMeant C S → List ℕ → Type 0)
      (asked : Result (QueryChangesMeant C S) MethodError) (reply : Data) : Type 0 where
    pub q : QueryChangesMeant C S
    pub found : FoundChanges epoch (entries_of p.touches) (IsListNow IsListOf p) q
    pub asked_is : asked ≡ Ok q
    pub reply_is : reply ≡ found_data letter epoch (entries_of p.touches) q found.touched found.list
    pub splices : (earlier : List (ℕ × V)) (old : List ℕ) → ((n : ℕ) → row_at earlier n ≡ had_at p found.place n) → IsListOf earlier q.list old
        → spliced old (were_there found.touched) (now_in found.list found.touched) ≡ found.list

abbrev pub SplicesEmails : MailHistory → Data → Data → Type 0
SplicesEmails h d = BringsListToNow email_letter h.epoch h.emails IsEmailList (email_query_changes_asked d)

abbrev pub SplicesMailboxes : MailHistory → Data → Data → Type 0
SplicesMailboxes h d = BringsListToNow mailbox_letter h.epoch h.mailboxes IsMailboxList (mailbox_query_changes_asked d)
