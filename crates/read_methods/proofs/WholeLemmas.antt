-- What is answered has integers alone.
use Rattle.std.proofs.Common.{◌≡◌, ℕ, List, [], ◌∷◌, map, Bool, true, false, ◌||◌, Option, Some, None, Ordering, Less, Equal, Greater, nat_cmp, refl, codes}
use Rattle.std.specs.Cmp.Lexicographic.{slice_cmp}
use Rattle.std.specs.Ordering.{match_ordering}
use Rattle.serde_json.specs.Data.{Data, Members, no_members, member, put}
use Rattle.serde_json.specs.View.{items_of}
use Rattle.serde_json.specs.Written.{has_float, items_have_float, members_have_float}
use Rattle.change_list.specs.declared.answer.Changes.{Changes}
use Rattle.jmap_arguments.specs.Ids.{id_data, id_list}
use Rattle.jmap_arguments.proofs.GetLemmas.{AreWhole}
use Rattle.mail_maps.specs.Serve.{ServedMailbox}
use Rattle.mail_maps.specs.declared.row.Role.{Role}
use Rattle.read_methods.specs.Changes.{changes_data, Further, no_further, names_if, updated_properties}
use Rattle.read_methods.specs.Mailboxes.{parent_data, role_data, property_name, property_data, with_properties, mailbox_objects}
use Rattle.read_methods.specs.Threads.{with_emails, thread_objects}
use Rattle.read_methods.specs.declared.mailbox_property.MailboxProperty.{MailboxProperty}
use Rattle.read_methods.specs.declared.mailbox_property.MailboxProperty.TheVariants.{Id, Name, ParentId, SortOrder, TotalEmails}
use Rattle.read_methods.specs.declared.mailbox_property.MailboxProperty.TheVariants.{UnreadEmails, TotalThreads, UnreadThreads, MyRights, IsSubscribed}
use Rattle.read_methods.specs.declared.mailbox_property.MailboxProperty.TheVariants as property

-- ---- members

put_at : (o : Ordering) (k l : List ℕ) (d e : Data) (ms : Members) → has_float d ≡ false → has_float e ≡ false → members_have_float ms ≡ false
    → members_have_float (put k d ms) ≡ false → members_have_float (match_ordering o (member k d (member l e ms)) (member l d ms) (member l e (put k d ms))) ≡ false
put_at Less k l d e ms whole first rest later = rw (whole, first, rest) refl
put_at Equal k l d e ms whole first rest later = rw (whole, rest) refl
put_at Greater k l d e ms whole first rest later = rw (first, later) refl

both : (a b : Bool) → (a || b) ≡ false → (a ≡ false) × (b ≡ false)
both true b is = absurd (cc)
both false b is = (refl, is)

whole_put : (k : List ℕ) (d : Data) (ms : Members) → has_float d ≡ false → members_have_float ms ≡ false → members_have_float (put k d ms) ≡ false
whole_put k d no_members whole rest = rw whole refl
whole_put k d (member l e ms) whole rest = let parts = both (has_float e) (members_have_float ms) rest in
    put_at (slice_cmp nat_cmp k l) k l d e ms whole parts.0 parts.1 (whole_put k d ms whole parts.1)

whole_ids : (letter : ℕ) (numbers : List ℕ) → items_have_float (items_of (map (id_data letter) numbers)) ≡ false
whole_ids letter [] = refl
whole_ids letter (n ∷ ns) = whole_ids letter ns

-- ---- Mailboxes

whole_parent : (o : Option ℕ) → has_float (parent_data o) ≡ false
whole_parent None = refl
whole_parent (Some n) = refl

whole_role : (o : Option Role) → has_float (role_data o) ≡ false
whole_role None = refl
whole_role (Some r) = refl

whole_property : (e : ℕ × ServedMailbox) (p : MailboxProperty) → has_float (property_data e p) ≡ false
whole_property e Id = refl
whole_property e Name = refl
whole_property e ParentId = whole_parent e.1.parent
whole_property e property.Role = whole_role e.1.role
whole_property e SortOrder = refl
whole_property e TotalEmails = refl
whole_property e UnreadEmails = refl
whole_property e TotalThreads = refl
whole_property e UnreadThreads = refl
whole_property e MyRights = refl
whole_property e IsSubscribed = refl

whole_properties : (e : ℕ × ServedMailbox) (ps : List MailboxProperty) (ms : Members) → members_have_float ms ≡ false → members_have_float (with_properties e ps ms) ≡ false
whole_properties e [] ms whole = whole
whole_properties e (p ∷ ps) ms whole =
    whole_properties e ps (put (property_name p) (property_data e p) ms) (whole_put (property_name p) (property_data e p) ms (whole_property e p) whole)

-- Mailboxes have integers alone
pub whole_mailboxes : (mailboxes : List (ℕ × ServedMailbox)) (wanted : List MailboxProperty) → AreWhole (mailbox_objects mailboxes wanted)
whole_mailboxes [] wanted = tt
whole_mailboxes (e ∷ es) wanted = (whole_properties e (Id ∷ wanted) no_members refl, whole_mailboxes es wanted)

-- ---- Threads

whole_emails : (wanted : Bool) (emails : List ℕ) (ms : Members) → members_have_float ms ≡ false → members_have_float (with_emails wanted emails ms) ≡ false
whole_emails true emails ms whole = whole_put (codes "emailIds") (id_list 101 emails) ms (whole_ids 101 emails) whole
whole_emails false emails ms whole = whole

-- so have Threads
pub whole_threads : (threads : List (ℕ × List ℕ)) (wanted : Bool) → AreWhole (thread_objects threads wanted)
whole_threads [] wanted = tt
whole_threads (e ∷ es) wanted = (whole_emails wanted e.1 (put (codes "id") (id_data 116 e.0) no_members) refl, whole_threads es wanted)

-- ---- changes

-- a type adds integers alone
abbrev pub AddsWhole : Further → Type 0
AddsWhole further = (c : Changes) → members_have_float (further c) ≡ false

-- so does one that adds nothing
pub none_whole : AddsWhole no_further
none_whole c = refl

whole_names : (counts_only : Bool) → has_float (names_if counts_only) ≡ false
whole_names true = refl
whole_names false = refl

-- and one that adds names of properties
pub names_whole : AddsWhole updated_properties
names_whole c = rw (whole_names c.counts_only) refl

-- what changed has integers alone
pub whole_changes : (letter epoch last : ℕ) (since : List ℕ) (further : Further) (c : Changes) → AddsWhole further
    → has_float (changes_data letter epoch last since further c) ≡ false
whole_changes letter epoch last since further c whole = rw (whole_ids letter c.created, whole_ids letter c.destroyed, whole_ids letter c.updated, whole c) refl
