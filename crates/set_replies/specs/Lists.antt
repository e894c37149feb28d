-- What each item of a call came to, in the lists of the reply (RFC 8620 section 5.3).
use Rattle.std.specs.Prelude.{ℕ, ◌++◌, List, [], ◌∷◌, if◌then◌else◌, is_some, Option, Some, None, option_map}
use Rattle.serde_json.specs.Data.{Data, null, string, Members, no_members, put}
use Rattle.serde_json.specs.Find.{get_member}
use Rattle.change_list.specs.Advance.{row_at}
use Rattle.jmap_arguments.specs.Ids.{id_text, email_letter, mailbox_letter}
use Rattle.mail_maps.specs.Rows.{Rows}
use Rattle.mail_maps.specs.Serve.{ServedMailbox}
use Rattle.mail_maps.specs.declared.row.EmailRow.{EmailRow}
use Rattle.read_methods.specs.Mailboxes.{mailbox_data, mailbox_properties}
use Rattle.set_arguments.specs.declared.set_method.SetMethod.{SetMethod}
use Rattle.set_arguments.specs.declared.set_method.SetMethod.TheVariants.{EmailSet, MailboxSet, EmailImport}
use Rattle.set_jobs.specs.declared.done.Done.{Done}
use Rattle.set_jobs.specs.declared.done.Done.TheVariants.{Made, MadeMailbox, Changed, Gone, Not}
use Rattle.set_jobs.specs.declared.done.SetError.TheVariants.{NotFound}
use Rattle.set_order.specs.Ordered.{Item, Create, Circle, Update, Destroy, item_key}
use Rattle.set_replies.specs.Emails.{came_out, made_data, row_of_mark}
use Rattle.set_replies.specs.Refusals.{refusal_data}

-- what is served after the commit: Emails and Mailboxes by number
pub record Served : Type 0 where
  pub emails : Rows
  pub mailboxes : List (ℕ × ServedMailbox)

pub record Lists : Type 0 where
  pub created : Members
  pub not_created : Members
  pub updated : Members
  pub not_updated : Members
  pub destroyed : List Data
  pub not_destroyed : Members

abbrev pub no_lists : Lists
no_lists = record { created = no_members; not_created = no_members; updated = no_members; not_updated = no_members; destroyed = []; not_destroyed = no_members }

-- ---- an item

abbrev pub refused_in : Item → Data → Lists → Lists
refused_in (Create key ms) d l = record l { not_created = put key d l.not_created }
refused_in (Circle key) d l = record l { not_created = put key d l.not_created }
refused_in (Update key ms) d l = record l { not_updated = put key d l.not_updated }
refused_in (Destroy key) d l = record l { not_destroyed = put key d l.not_destroyed }

-- what was made; where it is gone again by then it isn't found
abbrev pub made_in : Item → Option Data → Lists → Lists
made_in item None l = refused_in item (refusal_data NotFound) l
made_in item (Some d) l = record l { created = put (item_key item) d l.created }

abbrev pub message_made : ℕ → Option (ℕ × EmailRow) → Option Data
message_made size row = option_map (made_data size) row

-- with all its properties
abbrev pub mailbox_made : ℕ → Option ServedMailbox → Option Data
mailbox_made n served = option_map (λ (b : ServedMailbox). mailbox_data mailbox_properties (n, b)) served

-- what is said of an Email's keywords, where these were patched
abbrev pub keywords_told : Option (List (List ℕ)) → Option EmailRow → Option Data
keywords_told asked row = option_map (λ (names : List (List ℕ)). came_out names row) asked

-- Where two updates named one object, the last one that patched its keywords counts.
abbrev pub put_updated : List ℕ → Option Data → Members → Members
put_updated id None ms = if is_some (get_member id ms) then ms else put id null ms
put_updated id (Some d) ms = put id d ms

-- what ids of the method's type begin with
abbrev pub letter_of : SetMethod → ℕ
letter_of EmailSet = email_letter
letter_of MailboxSet = mailbox_letter
letter_of EmailImport = email_letter

abbrev pub id_of : SetMethod → ℕ → List ℕ
id_of m n = id_text (letter_of m) n

-- what was made under the creation id, what was changed or is gone by its id, and what was refused as it was named
abbrev pub listed : SetMethod → Served → Item → Done → Lists → Lists
listed m s item (Made mark size) l = made_in item (message_made size (row_of_mark s.emails mark)) l
listed m s item (MadeMailbox n) l = made_in item (mailbox_made n (row_at s.mailboxes n)) l
listed m s item (Changed n asked) l = record l { updated = put_updated (id_of m n) (keywords_told asked (row_at s.emails n)) l.updated }
listed m s item (Gone n) l = record l { destroyed = l.destroyed ++ string (id_of m n) ∷ [] }
listed m s item (Not e) l = refused_in item (refusal_data e) l

-- ---- all items, in their order

abbrev pub lists_with : SetMethod → Served → Lists → List (Item × Done) → Lists
lists_with m s l [] = l
lists_with m s l (e ∷ es) = lists_with m s (listed m s e.0 e.1 l) es

abbrev pub lists_of : SetMethod → Served → List (Item × Done) → Lists
lists_of m s done = lists_with m s no_lists done
