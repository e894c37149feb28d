-- What a reply says was created: what an item of its call made (RFC 8620 section 5.3).
use Rattle.std.specs.Prelude.{◌≡◌, ℕ, List, Contains, Some, Result}
use Rattle.serde_json.specs.Data.{Data}
use Rattle.serde_json.specs.Find.{get_member}
use Rattle.change_list.specs.Advance.{row_at}
use Rattle.jmap_arguments.specs.declared.method_error.MethodError.{MethodError}
use Rattle.mail_maps.specs.Serve.{ServedMailbox}
use Rattle.mail_maps.specs.declared.row.EmailRow.{EmailRow}
use Rattle.mail_state.specs.History.{MailHistory}
use Rattle.read_methods.specs.Mailboxes.{mailbox_data, mailbox_properties}
use Rattle.set_arguments.specs.declared.set_method.SetMethod.{SetMethod}
use Rattle.set_jobs.specs.declared.done.Done.{Done}
use Rattle.set_jobs.specs.declared.done.Done.TheVariants.{Made, MadeMailbox}
use Rattle.set_order.specs.Ordered.{Item, item_key}
use Rattle.set_replies.specs.Emails.{made_data, row_of_mark}
use Rattle.set_replies.specs.Lists.{Served, lists_of}
use Rattle.set_replies.specs.Replies.{served_after}
use Rattle.gate_changes.specs.Answering.{ChangeState, AnswersChange, Replies, Fails}

-- this is the object of what was made, which is served: of the Email of the mark, or of the Mailbox of the number
abbrev pub IsObjectOf : Served → Done → Data → Type 0
IsObjectOf s (Made mark size) d = (e : ℕ × EmailRow) × (row_of_mark s.emails mark ≡ Some e) × (d ≡ made_data size e)
IsObjectOf s (MadeMailbox n) d = (b : ServedMailbox) × (row_at s.mailboxes n ≡ Some b) × (d ≡ mailbox_data mailbox_properties (n, b))
IsObjectOf s _ d = ⊥

-- one of these items, which this creation id names, made it
pub record WasMade (s : Served) (done : List (Item × Done)) (key : List ℕ) (d : Data) : Type 0 where
  pub item : Item
  pub came : Done
  pub among : Contains done (item, came)
  pub named : item_key item ≡ key
  pub is_object : IsObjectOf s came d

-- so it is of all that the reply says was created, by what is served after the commit
abbrev pub CreatedWereMade : {m : SetMethod} {h : MailHistory} {before : ChangeState} {came : Result (List (Item × Done)) MethodError} {result : Result Data MethodError}
    {after : ChangeState} → AnswersChange m h before came result after → Type 0
CreatedWereMade {m = m} (Replies done known came_is known_is result_is created_is) =
    (key : List ℕ) (d : Data) → get_member key (lists_of m (served_after known.history) done).created ≡ Some d
    → WasMade (served_after known.history) done key d
CreatedWereMade (Fails e came_is result_is created_is) = Unit {0}
