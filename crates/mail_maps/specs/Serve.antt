-- What is served of a row, and when two are served alike.
use Rattle.std.specs.Prelude.{ℕ, ℤ, List, Bool, false, ◌&&◌, ◌==◌, Option}
use Rattle.std.specs.Cmp.Lexicographic.{pointwise}
use Rattle.std.specs.Bool.{beq}
use Rattle.std.specs.Option.{option_eq}
use Rattle.std.specs.Ordering.{int_eq}
use Rattle.std.specs.Str.{bytes_eq}
use Rattle.change_list.specs.Advance.{Tests}
use Rattle.mail_maps.specs.declared.envelope.Envelope.{Envelope}
use Rattle.mail_maps.specs.declared.envelope.AddressField.{AddressField}
use Rattle.mail_maps.specs.declared.row.EmailRow.{EmailRow}
use Rattle.mail_maps.specs.declared.row.MailboxRow.{MailboxRow}
use Rattle.mail_maps.specs.declared.row.Role.{Role}
use Rattle.mail_maps.specs.declared.tally.FolderCounts.{FolderCounts}
use Rattle.mail_maps.specs.declared.row.Rights.{Rights}
use Rattle.mail_maps.specs.Roles.{same_role}

-- what an Email never changes
pub record Immutable : Type 0 where
  pub mark : ℕ
  pub received : ℤ
  pub size : ℕ
  pub thread : ℕ
  pub header : List ℕ
  pub envelope : Envelope

-- an Email as it is served: without its UID
pub record Email : Type 0 where
  pub immutable : Immutable
  pub folder : ℕ
  pub keywords : List (List ℕ)

abbrev pub immutable_of : EmailRow → Immutable
immutable_of r = record { mark = r.mark; received = r.received; size = r.size; thread = r.thread; header = r.header; envelope = r.envelope }

abbrev pub email_of : EmailRow → Email
email_of r = record { immutable = immutable_of r; folder = r.folder; keywords = r.keywords }

-- a Mailbox as it is served: without its full name
pub record ServedMailbox : Type 0 where
  pub name : List ℕ
  pub parent : Option ℕ
  pub role : Option Role
  pub subscribed : Bool
  pub rights : Rights
  pub counts : FolderCounts

abbrev pub counts_of : MailboxRow → FolderCounts
counts_of r = record { total_emails = r.total_emails; unread_emails = r.unread_emails; total_threads = r.total_threads; unread_threads = r.unread_threads }

abbrev pub mailbox_of : MailboxRow → ServedMailbox
mailbox_of r = record { name = r.name; parent = r.parent; role = r.role; subscribed = r.subscribed; rights = r.rights; counts = counts_of r }

-- a Thread is served as it is kept
abbrev pub thread_of : List ℕ → List ℕ
thread_of t = t

-- ---- tests

abbrev pub same_names : List (List ℕ) → List (List ℕ) → Bool
same_names a b = pointwise bytes_eq a b

abbrev pub same_text : Option (List ℕ) → Option (List ℕ) → Bool
same_text a b = option_eq bytes_eq a b

abbrev pub same_address_field : AddressField → AddressField → Bool
same_address_field a b = same_text a.text b.text && same_text a.first b.first

abbrev pub same_envelope : Envelope → Envelope → Bool
same_envelope a b =
    same_text a.subject b.subject && (same_text a.cc b.cc && (same_text a.bcc b.bcc && (same_address_field a.from b.from && (same_address_field a.to b.to
    && (bytes_eq a.base b.base && (option_eq int_eq a.sent_at b.sent_at && same_names a.ids b.ids))))))

abbrev pub same_immutable : Immutable → Immutable → Bool
same_immutable a b =
    a.mark == b.mark && (int_eq a.received b.received && (a.size == b.size && (a.thread == b.thread
    && (bytes_eq a.header b.header && same_envelope a.envelope b.envelope))))

abbrev pub same_email : Email → Email → Bool
same_email a b = same_immutable a.immutable b.immutable && (a.folder == b.folder && same_names a.keywords b.keywords)

abbrev pub same_rights : Rights → Rights → Bool
same_rights a b =
    beq a.may_read_items b.may_read_items && (beq a.may_add_items b.may_add_items && (beq a.may_remove_items b.may_remove_items
    && (beq a.may_set_seen b.may_set_seen && (beq a.may_set_keywords b.may_set_keywords && (beq a.may_create_child b.may_create_child
    && (beq a.may_rename b.may_rename && (beq a.may_delete b.may_delete && beq a.may_submit b.may_submit)))))))

abbrev pub same_counts : FolderCounts → FolderCounts → Bool
same_counts a b =
    a.total_emails == b.total_emails && (a.unread_emails == b.unread_emails && (a.total_threads == b.total_threads && a.unread_threads == b.unread_threads))

abbrev pub same_but_counts : ServedMailbox → ServedMailbox → Bool
same_but_counts a b =
    bytes_eq a.name b.name && (option_eq ◌==◌ a.parent b.parent && (same_role a.role b.role
    && (beq a.subscribed b.subscribed && same_rights a.rights b.rights)))

abbrev pub same_mailbox : ServedMailbox → ServedMailbox → Bool
same_mailbox a b = same_but_counts a b && same_counts a.counts b.counts

abbrev pub same_thread : List ℕ → List ℕ → Bool
same_thread a b = bytes_eq a b

abbrev pub never : {V : Type 0} → V → V → Bool
never a b = false

abbrev pub mailbox_tests : Tests ServedMailbox
mailbox_tests = record { same = same_mailbox; counts = same_but_counts }

abbrev pub email_tests : Tests Email
email_tests = record { same = same_email; counts = never }

abbrev pub thread_tests : Tests (List ℕ)
thread_tests = record { same = same_thread; counts = never }
