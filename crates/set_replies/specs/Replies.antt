-- The reply of a call, by what its items came to and the history after its commit (RFC 8620 section 5.3, RFC 8621 section 4.8).
use Rattle.std.specs.Prelude.{ℕ, List, [], ◌∷◌, codes}
use Rattle.serde_json.specs.Data.{Data, null, string, array, object, Members, no_members, member}
use Rattle.serde_json.specs.View.{items_of}
use Rattle.jmap_arguments.specs.Arguments.{account_id}
use Rattle.mail_state.specs.History.{MailHistory}
use Rattle.set_arguments.specs.declared.set_method.SetMethod.{SetMethod}
use Rattle.set_arguments.specs.declared.set_method.SetMethod.TheVariants.{EmailSet, MailboxSet, EmailImport}
use Rattle.set_jobs.specs.declared.done.Done.{Done}
use Rattle.set_order.specs.Ordered.{Item}
use Rattle.set_replies.specs.Lists.{Lists, Served, lists_of}
use Rattle.set_replies.specs.States.{state_at, state_of}

abbrev pub object_or_null : Members → Data
object_or_null no_members = null
object_or_null (member k d ms) = object (member k d ms)

abbrev pub list_or_null : List Data → Data
list_or_null [] = null
list_or_null (d ∷ ds) = array (items_of (d ∷ ds))

-- between these two states
abbrev pub set_data : List ℕ → List ℕ → Lists → Data
set_data old new l = object
    (member (codes "accountId") (string account_id)
    (member (codes "created") (object_or_null l.created)
    (member (codes "destroyed") (list_or_null l.destroyed)
    (member (codes "newState") (string new)
    (member (codes "notCreated") (object_or_null l.not_created)
    (member (codes "notDestroyed") (object_or_null l.not_destroyed)
    (member (codes "notUpdated") (object_or_null l.not_updated)
    (member (codes "oldState") (string old)
    (member (codes "updated") (object_or_null l.updated)
    no_members)))))))))

-- the same of an import, by which no object is changed or goes
abbrev pub import_data : List ℕ → List ℕ → Lists → Data
import_data old new l = object
    (member (codes "accountId") (string account_id)
    (member (codes "created") (object_or_null l.created)
    (member (codes "newState") (string new)
    (member (codes "notCreated") (object_or_null l.not_created)
    (member (codes "oldState") (string old)
    no_members)))))

abbrev pub reply_data : SetMethod → List ℕ → List ℕ → Lists → Data
reply_data EmailSet old new l = set_data old new l
reply_data MailboxSet old new l = set_data old new l
reply_data EmailImport old new l = import_data old new l

abbrev pub served_after : MailHistory → Served
served_after h = record { emails = h.numbered.rows; mailboxes = h.mailboxes.now }

-- the state before the items is of the place that the type had then
abbrev pub set_reply : SetMethod → ℕ → MailHistory → List (Item × Done) → Data
set_reply m before h done = reply_data m (state_at h.epoch before) (state_of m h) (lists_of m (served_after h) done)
