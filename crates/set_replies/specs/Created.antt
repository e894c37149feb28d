-- The ids of what a call created, by creation id (RFC 8620 section 3.3): those that the request has from then on.
use Rattle.std.specs.Prelude.{ℕ, List, [], ◌∷◌, Option, Some, None, option_map}
use Rattle.change_list.specs.Advance.{row_at}
use Rattle.jmap_arguments.specs.Ids.{id_text, mailbox_letter, email_letter}
use Rattle.jmap_core.specs.CreatedIds.{Ids, put_id}
use Rattle.mail_maps.specs.Serve.{ServedMailbox}
use Rattle.mail_maps.specs.declared.row.EmailRow.{EmailRow}
use Rattle.mail_state.specs.History.{MailHistory}
use Rattle.set_jobs.specs.declared.done.Done.{Done}
use Rattle.set_jobs.specs.declared.done.Done.TheVariants.{Made, MadeMailbox}
use Rattle.set_order.specs.Ordered.{Item, item_key}
use Rattle.set_replies.specs.Emails.{row_of_mark}
use Rattle.set_replies.specs.Lists.{Served}
use Rattle.set_replies.specs.Replies.{served_after}

-- the id of what an item made, where it is there after the commit
abbrev pub id_made : Served → Done → Option (List ℕ)
id_made s (Made mark size) = option_map (λ (e : ℕ × EmailRow). id_text email_letter e.0) (row_of_mark s.emails mark)
id_made s (MadeMailbox n) = option_map (λ (b : ServedMailbox). id_text mailbox_letter n) (row_at s.mailboxes n)
id_made s _ = None

abbrev pub put_made : List ℕ → Option (List ℕ) → Ids → Ids
put_made key None ids = ids
put_made key (Some id) ids = put_id key id ids

-- in the order of the items
abbrev pub created_in : Served → Ids → List (Item × Done) → Ids
created_in s ids [] = ids
created_in s ids (e ∷ es) = created_in s (put_made (item_key e.0) (id_made s e.1) ids) es

abbrev pub created_with : MailHistory → Ids → List (Item × Done) → Ids
created_with h ids done = created_in (served_after h) ids done
