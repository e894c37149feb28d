-- Mailbox/get (RFC 8621 section 2.1): Mailboxes as objects, with the properties of section 2.
use Rattle.std.specs.Prelude.{ℕ, List, [], ◌∷◌, Bool, if◌then◌else◌, bytes_eq, codes, Option, Some, None, Result, Ok, Err}
use Rattle.std.specs.List.{filter, list_all, list_any}
use Rattle.serde_json.specs.Data.{unsigned, Data, null, boolean, number, string, object, Members, no_members, member, put}
use Rattle.jmap_arguments.specs.Arguments.{texts_at, is_among}
use Rattle.jmap_arguments.specs.Gets.{GetAsked, get_asked, shown_as, get_answered}
use Rattle.jmap_arguments.specs.Ids.{mailbox_letter, id_data}
use Rattle.jmap_arguments.specs.Outcome.{refusal_of}
use Rattle.jmap_arguments.specs.declared.method_error.MethodError.{MethodError}
use Rattle.jmap_arguments.specs.declared.method_error.MethodError.TheVariants.{InvalidArguments}
use Rattle.mail_maps.specs.Serve.{ServedMailbox}
use Rattle.mail_maps.specs.declared.row.Role.{Role}
use Rattle.mail_maps.specs.declared.row.Rights.{Rights}
use Rattle.read_methods.specs.declared.mailbox_property.MailboxProperty.{MailboxProperty}
use Rattle.read_methods.specs.declared.mailbox_property.MailboxProperty.TheVariants.{Id, Name, ParentId, SortOrder, TotalEmails}
use Rattle.read_methods.specs.declared.mailbox_property.MailboxProperty.TheVariants.{UnreadEmails, TotalThreads, UnreadThreads, MyRights, IsSubscribed}
use Rattle.read_methods.specs.declared.mailbox_property.MailboxProperty.TheVariants as property
use Rattle.served_types.specs.Roles.{role_name}

-- ---- properties

abbrev pub mailbox_properties : List MailboxProperty
mailbox_properties = Id ∷ Name ∷ ParentId ∷ property.Role ∷ SortOrder ∷ TotalEmails ∷ UnreadEmails ∷ TotalThreads ∷ UnreadThreads ∷ MyRights ∷ IsSubscribed ∷ []

abbrev pub property_name : MailboxProperty → List ℕ
property_name Id = codes "id"
property_name Name = codes "name"
property_name ParentId = codes "parentId"
property_name property.Role = codes "role"
property_name SortOrder = codes "sortOrder"
property_name TotalEmails = codes "totalEmails"
property_name UnreadEmails = codes "unreadEmails"
property_name TotalThreads = codes "totalThreads"
property_name UnreadThreads = codes "unreadThreads"
property_name MyRights = codes "myRights"
property_name IsSubscribed = codes "isSubscribed"

-- whether the name is that of one of these
abbrev pub is_name_in : List MailboxProperty → List ℕ → Bool
is_name_in properties name = list_any (λ p. bytes_eq (property_name p) name) properties

-- those of these that are named
abbrev pub those_named : List MailboxProperty → List (List ℕ) → List MailboxProperty
those_named properties names = filter (λ p. is_among (property_name p) names) properties

-- ---- values

abbrev pub parent_data : Option ℕ → Data
parent_data None = null
parent_data (Some parent) = id_data mailbox_letter parent

abbrev pub role_data : Option Role → Data
role_data None = null
role_data (Some r) = string (role_name r)

abbrev pub rights_data : Rights → Data
rights_data r = object
    (member (codes "mayAddItems") (boolean r.may_add_items)
    (member (codes "mayCreateChild") (boolean r.may_create_child)
    (member (codes "mayDelete") (boolean r.may_delete)
    (member (codes "mayReadItems") (boolean r.may_read_items)
    (member (codes "mayRemoveItems") (boolean r.may_remove_items)
    (member (codes "mayRename") (boolean r.may_rename)
    (member (codes "maySetKeywords") (boolean r.may_set_keywords)
    (member (codes "maySetSeen") (boolean r.may_set_seen)
    (member (codes "maySubmit") (boolean r.may_submit)
    no_members)))))))))

abbrev pub count_data : ℕ → Data
count_data n = number (unsigned n)

abbrev pub property_data : ℕ × ServedMailbox → MailboxProperty → Data
property_data e Id = id_data mailbox_letter e.0
property_data e Name = string e.1.name
property_data e ParentId = parent_data e.1.parent
property_data e property.Role = role_data e.1.role
property_data e SortOrder = count_data 0
property_data e TotalEmails = count_data e.1.counts.total_emails
property_data e UnreadEmails = count_data e.1.counts.unread_emails
property_data e TotalThreads = count_data e.1.counts.total_threads
property_data e UnreadThreads = count_data e.1.counts.unread_threads
property_data e MyRights = rights_data e.1.rights
property_data e IsSubscribed = boolean e.1.subscribed

-- ---- the object: each property at its name; the id always is among them

abbrev pub with_properties : ℕ × ServedMailbox → List MailboxProperty → Members → Members
with_properties e [] members = members
with_properties e (p ∷ ps) members = with_properties e ps (put (property_name p) (property_data e p) members)

abbrev pub mailbox_data : List MailboxProperty → ℕ × ServedMailbox → Data
mailbox_data wanted e = object (with_properties e (Id ∷ wanted) no_members)

-- ---- the answer

-- all properties where none are named; no name but theirs may stand there
abbrev pub wanted_of : Option (List (List ℕ)) → Result (List MailboxProperty) MethodError
wanted_of None = Ok mailbox_properties
wanted_of (Some names) = if list_all (is_name_in mailbox_properties) names then Ok (those_named mailbox_properties names) else Err InvalidArguments

abbrev pub wanted_from : Result (Option (List (List ℕ))) MethodError → Result (List MailboxProperty) MethodError
wanted_from (Ok names) = wanted_of names
wanted_from (Err e) = Err e

abbrev pub mailboxes_asked : Data → Result (GetAsked (List MailboxProperty)) MethodError
mailboxes_asked d = get_asked (wanted_from (texts_at (codes "properties") d)) d

-- the refusal by the arguments alone
abbrev pub mailboxes_refused : Data → Result (Unit {0}) MethodError
mailboxes_refused d = refusal_of (mailboxes_asked d)

abbrev pub mailbox_objects : List (ℕ × ServedMailbox) → List MailboxProperty → List (ℕ × Data)
mailbox_objects mailboxes wanted = shown_as (mailbox_data wanted) mailboxes

-- of these Mailboxes, in this state
abbrev pub mailboxes_answer : List ℕ → List (ℕ × ServedMailbox) → Data → Result Data MethodError
mailboxes_answer state mailboxes d = get_answered mailbox_letter state (mailbox_objects mailboxes) (mailboxes_asked d)
