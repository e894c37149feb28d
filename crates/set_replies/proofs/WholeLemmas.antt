-- No number of a reply has a fraction.
use Rattle.std.proofs.Common.{◌≡◌, ℕ, Bool, true, false, ◌||◌, List, [], ◌∷◌, ◌++◌, map, is_some, if◌then◌else◌, Option, Some, None, refl, sym, subst}
use Rattle.std.specs.Str.Lossy.{utf8_lossy}
use Rattle.serde_json.specs.Data.{Data, boolean, null, string, Members, no_members, member, put}
use Rattle.serde_json.specs.Find.{get_member}
use Rattle.serde_json.specs.View.{items_of}
use Rattle.serde_json.specs.Written.{has_float, items_have_float, members_have_float}
use Rattle.json_texts.proofs.WholeLemmas.{put_whole}
use Rattle.email_objects.specs.Properties.{with_keywords, keywords_data}
use Rattle.mail_maps.specs.Serve.{ServedMailbox, same_names}
use Rattle.mail_maps.specs.declared.row.EmailRow.{EmailRow}
use Rattle.mail_maps.specs.declared.row.Role.{Role}
use Rattle.mail_state.specs.History.{MailHistory}
use Rattle.read_methods.specs.Mailboxes.{parent_data, role_data, property_name, property_data, with_properties, mailbox_properties}
use Rattle.read_methods.specs.declared.mailbox_property.MailboxProperty.{MailboxProperty}
use Rattle.read_methods.specs.declared.mailbox_property.MailboxProperty.TheVariants.{Id, Name, ParentId, SortOrder, TotalEmails}
use Rattle.read_methods.specs.declared.mailbox_property.MailboxProperty.TheVariants.{UnreadEmails, TotalThreads, UnreadThreads, MyRights, IsSubscribed}
use Rattle.read_methods.specs.declared.mailbox_property.MailboxProperty.TheVariants as property
use Rattle.set_arguments.specs.declared.set_method.SetMethod.{SetMethod}
use Rattle.set_arguments.specs.declared.set_method.SetMethod.TheVariants.{EmailSet, MailboxSet, EmailImport}
use Rattle.set_jobs.specs.declared.done.Done.{Done}
use Rattle.set_jobs.specs.declared.done.Done.TheVariants.{Made, MadeMailbox, Changed, Gone, Not}
use Rattle.set_jobs.specs.declared.done.SetError.{SetError}
use Rattle.set_jobs.specs.declared.done.SetError.TheVariants.{Forbidden, OverQuota, TooLarge, NotFound, InvalidPatch, InvalidProperties, BlobNotFound, TooManyMailboxes, MailboxHasChild, MailboxHasEmail}
use Rattle.set_order.specs.Ordered.{Item, Create, Circle, Update, Destroy, item_key}
use Rattle.set_replies.specs.Emails.{came_out, row_of_mark}
use Rattle.set_replies.specs.Lists.{Lists, Served, id_of, keywords_told, listed, lists_of, lists_with, made_in, mailbox_made, message_made, no_lists, put_updated, refused_in}
use Rattle.set_replies.specs.Refusals.{refusal_data}
use Rattle.set_replies.specs.Replies.{list_or_null, object_or_null, import_data, reply_data, served_after, set_data, set_reply}
use Rattle.set_replies.specs.States.{state_at, state_of}
use Rattle.set_replies.specs.reading.Whole.{AreWhole}

-- ---- values

texts_whole : (texts : List (List ℕ)) → items_have_float (items_of (map string texts)) ≡ false
texts_whole [] = refl
texts_whole (t ∷ ts) = texts_whole ts

whole_refusal : (e : SetError) → has_float (refusal_data e) ≡ false
whole_refusal Forbidden = refl
whole_refusal OverQuota = refl
whole_refusal TooLarge = refl
whole_refusal NotFound = refl
whole_refusal InvalidPatch = refl
whole_refusal (InvalidProperties properties) = rw (texts_whole properties) refl
whole_refusal (BlobNotFound ids) = rw (texts_whole ids) refl
whole_refusal TooManyMailboxes = refl
whole_refusal MailboxHasChild = refl
whole_refusal MailboxHasEmail = refl

with_keywords_whole : (ks : List (List ℕ)) (before : Members) → members_have_float before ≡ false → members_have_float (with_keywords ks before) ≡ false
with_keywords_whole [] before h = h
with_keywords_whole (k ∷ ks) before h =
    with_keywords_whole ks (put (utf8_lossy k) (boolean true) before) (put_whole (utf8_lossy k) (boolean true) before refl h)

whole_came_out : (asked : List (List ℕ)) (row : Option EmailRow) → has_float (came_out asked row) ≡ false
whole_came_out asked None = refl
whole_came_out asked (Some row) = by (same_names asked row.keywords)
  where
    by : (same : Bool) → has_float (if same then null else Rattle.serde_json.specs.Data.object (member (Rattle.std.proofs.Common.codes "keywords") (keywords_data (Some row)) no_members)) ≡ false
    by true = refl
    by false = rw (with_keywords_whole row.keywords no_members refl) refl

whole_parent : (o : Option ℕ) → has_float (parent_data o) ≡ false
whole_parent None = refl
whole_parent (Some n) = refl

whole_role : (o : Option Role) → has_float (role_data o) ≡ false
whole_role None = refl
whole_role (Some r) = refl

whole_property : (e : ℕ × ServedMailbox) (p : MailboxProperty) → has_float (property_data e p) ≡ false
whole_property e Id = refl
whole_property e Name = refl
whole_property e ParentId = whole_parent e.1.parent
whole_property e property.Role = whole_role e.1.role
whole_property e SortOrder = refl
whole_property e TotalEmails = refl
whole_property e UnreadEmails = refl
whole_property e TotalThreads = refl
whole_property e UnreadThreads = refl
whole_property e MyRights = refl
whole_property e IsSubscribed = refl

whole_properties : (e : ℕ × ServedMailbox) (ps : List MailboxProperty) (ms : Members) → members_have_float ms ≡ false → members_have_float (with_properties e ps ms) ≡ false
whole_properties e [] ms whole = whole
whole_properties e (p ∷ ps) ms whole =
    whole_properties e ps (put (property_name p) (property_data e p) ms) (put_whole (property_name p) (property_data e p) ms (whole_property e p) whole)

-- ---- lists

-- so are lists that are equal to such
pub whole_as : (l n : Lists) → l ≡ n → AreWhole n → AreWhole l
whole_as l n is whole = subst AreWhole (sym is) whole

pub none_whole : AreWhole no_lists
none_whole = record { created = refl; not_created = refl; updated = refl; not_updated = refl; destroyed = refl; not_destroyed = refl }

pub whole_refused : (item : Item) (d : Data) (l : Lists) → has_float d ≡ false → AreWhole l → AreWhole (refused_in item d l)
whole_refused (Create key ms) d l whole w = record { created = w.created; not_created = put_whole key d l.not_created whole w.not_created; updated = w.updated; not_updated = w.not_updated; destroyed = w.destroyed; not_destroyed = w.not_destroyed }
whole_refused (Circle key) d l whole w = record { created = w.created; not_created = put_whole key d l.not_created whole w.not_created; updated = w.updated; not_updated = w.not_updated; destroyed = w.destroyed; not_destroyed = w.not_destroyed }
whole_refused (Update key ms) d l whole w = record { created = w.created; not_created = w.not_created; updated = w.updated; not_updated = put_whole key d l.not_updated whole w.not_updated; destroyed = w.destroyed; not_destroyed = w.not_destroyed }
whole_refused (Destroy key) d l whole w = record { created = w.created; not_created = w.not_created; updated = w.updated; not_updated = w.not_updated; destroyed = w.destroyed; not_destroyed = put_whole key d l.not_destroyed whole w.not_destroyed }

pub created_whole : (l : Lists) (ms : Members) → members_have_float ms ≡ false → AreWhole l → AreWhole (record l { created = ms })
created_whole l ms whole w = record {
  created = whole;
  not_created = w.not_created;
  updated = w.updated;
  not_updated = w.not_updated;
  destroyed = w.destroyed;
  not_destroyed = w.not_destroyed;
}

-- a value that is there has no fraction
abbrev IsWhole : Option Data → Type 0
IsWhole None = Unit {0}
IsWhole (Some d) = has_float d ≡ false

whole_made : (item : Item) (o : Option Data) (l : Lists) → IsWhole o → AreWhole l → AreWhole (made_in item o l)
whole_made item None l whole w = whole_refused item (refusal_data NotFound) l refl w
whole_made item (Some d) l whole w = created_whole l (put (item_key item) d l.created) (put_whole (item_key item) d l.created whole w.created) w

message_whole : (size : ℕ) (row : Option (ℕ × EmailRow)) → IsWhole (message_made size row)
message_whole size None = tt
message_whole size (Some e) = refl

mailbox_whole : (n : ℕ) (served : Option ServedMailbox) → IsWhole (mailbox_made n served)
mailbox_whole n None = tt
mailbox_whole n (Some b) = whole_properties (n, b) (Id ∷ mailbox_properties) no_members refl

keywords_whole : (asked : Option (List (List ℕ))) (row : Option EmailRow) → IsWhole (keywords_told asked row)
keywords_whole None row = tt
keywords_whole (Some names) row = whole_came_out names row

updated_whole : (id : List ℕ) (o : Option Data) (ms : Members) → IsWhole o → members_have_float ms ≡ false → members_have_float (put_updated id o ms) ≡ false
updated_whole id None ms whole rest = by (is_some (get_member id ms))
  where
    by : (there : Bool) → members_have_float (if there then ms else put id null ms) ≡ false
    by true = rest
    by false = put_whole id null ms refl rest
updated_whole id (Some d) ms whole rest = put_whole id d ms whole rest

one_more : (ds : List Data) (t : List ℕ) → items_have_float (items_of ds) ≡ false → items_have_float (items_of (ds ++ string t ∷ [])) ≡ false
one_more [] t whole = refl
one_more (d ∷ ds) t whole = let p = both (has_float d) (items_have_float (items_of ds)) whole in rw (p.0, one_more ds t p.1) refl
  where
    both : (a b : Bool) → (a || b) ≡ false → (a ≡ false) × (b ≡ false)
    both true b is = absurd cc
    both false b is = (refl, is)

pub whole_listed : (m : SetMethod) (s : Served) (item : Item) (done : Done) (l : Lists) → AreWhole l → AreWhole (listed m s item done l)
whole_listed m s item (Made mark size) l w = whole_made item _ l (message_whole size (row_of_mark s.emails mark)) w
whole_listed m s item (MadeMailbox n) l w = whole_made item _ l (mailbox_whole n (Rattle.change_list.specs.Advance.row_at s.mailboxes n)) w
whole_listed m s item (Changed n asked) l w =
    record { created = w.created; not_created = w.not_created; updated = updated_whole (id_of m n) _ l.updated (keywords_whole asked (Rattle.change_list.specs.Advance.row_at s.emails n)) w.updated; not_updated = w.not_updated; destroyed = w.destroyed; not_destroyed = w.not_destroyed }
whole_listed m s item (Gone n) l w = record { created = w.created; not_created = w.not_created; updated = w.updated; not_updated = w.not_updated; destroyed = one_more l.destroyed (id_of m n) w.destroyed; not_destroyed = w.not_destroyed }
whole_listed m s item (Not e) l w = whole_refused item (refusal_data e) l (whole_refusal e) w

whole_lists : (m : SetMethod) (s : Served) (l : Lists) (done : List (Item × Done)) → AreWhole l → AreWhole (lists_with m s l done)
whole_lists m s l [] w = w
whole_lists m s l (e ∷ es) w = whole_lists m s (listed m s e.0 e.1 l) es (whole_listed m s e.0 e.1 l w)

-- ---- the reply

whole_object : (ms : Members) → members_have_float ms ≡ false → has_float (object_or_null ms) ≡ false
whole_object no_members whole = refl
whole_object (member k d ms) whole = whole

whole_list : (ds : List Data) → items_have_float (items_of ds) ≡ false → has_float (list_or_null ds) ≡ false
whole_list [] whole = refl
whole_list (d ∷ ds) whole = whole

pub data_whole : (old new : List ℕ) (l : Lists) → AreWhole l → has_float (set_data old new l) ≡ false
data_whole old new l w = rw (
  whole_object l.created w.created,
  whole_list l.destroyed w.destroyed,
  whole_object l.not_created w.not_created,
  whole_object l.not_destroyed w.not_destroyed,
  whole_object l.not_updated w.not_updated,
  whole_object l.updated w.updated,
) refl

import_whole : (old new : List ℕ) (l : Lists) → AreWhole l → has_float (import_data old new l) ≡ false
import_whole old new l w = rw (whole_object l.created w.created, whole_object l.not_created w.not_created) refl

pub reply_data_whole : (m : SetMethod) (old new : List ℕ) (l : Lists) → AreWhole l → has_float (reply_data m old new l) ≡ false
reply_data_whole EmailSet old new l w = data_whole old new l w
reply_data_whole MailboxSet old new l w = data_whole old new l w
reply_data_whole EmailImport old new l w = import_whole old new l w

pub reply_whole : (m : SetMethod) (before : ℕ) (h : MailHistory) (done : List (Item × Done)) → has_float (set_reply m before h done) ≡ false
reply_whole m before h done =
    reply_data_whole m (state_at h.epoch before) (state_of m h) (lists_of m (served_after h) done) (whole_lists m (served_after h) no_lists done none_whole)
