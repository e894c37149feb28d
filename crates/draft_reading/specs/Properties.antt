-- Which values the properties of an Email that is to be created may have (RFC 8621 sections 4.1 and 4.6).
use Rattle.std.specs.Prelude.{◌≡◌, ℕ, Bool, true, ◌≢◌, List, Option, Some, None, codes, is_some, IsTrue}
use Rattle.std.specs.Cmp.Lexicographic.{slice_cmp}
use Rattle.std.specs.Ordering.{nat_cmp}
use Rattle.std.specs.declared.cmp.Ordering.TheVariants.{Greater}
use Rattle.serde_json.specs.Data.{Data, null, Members}
use Rattle.serde_json.specs.Find.{get_member, as_str}
use Rattle.jmap_values.specs.Keywords.{is_keyword}
use Rattle.draft_reading.specs.declared.property.Property.{Property}
use Rattle.draft_reading.specs.declared.property.Property.TheVariants as property
use Rattle.draft_reading.specs.Names.{property_named}
use Rattle.draft_reading.specs.Values.{id_in, date_in, is_utc_date, list_in, is_object_of, is_set_of}
use Rattle.draft_reading.specs.Mailboxes.{Named, AreAddresses}
use Rattle.draft_reading.specs.Parts.{is_body_value, text_list_in, attachment_in}

-- ---- values

abbrev pub AreSomeAddresses : Data → Type 0
AreSomeAddresses d = (list : List Named) × AreAddresses d list

abbrev pub any_key : List ℕ → Bool
any_key key = true

-- a value that the property may have; `all` are the properties of the Email
unfoldable pub Allows : Members → Property → Data → Type 0
Allows all property.Attachments d = IsTrue (is_some (list_in attachment_in d))
Allows all property.Bcc d = AreSomeAddresses d
Allows all property.BodyValues d = IsTrue (is_object_of (λ key v. is_body_value v) d)
Allows all property.Cc d = AreSomeAddresses d
Allows all property.From d = AreSomeAddresses d
Allows all property.HtmlBody d = IsTrue (is_some (text_list_in all (codes "text/html") d))
Allows all property.InReplyTo d = IsTrue (is_some (list_in id_in d))
Allows all property.Keywords d = IsTrue (is_set_of is_keyword d)
Allows all property.MailboxIds d = IsTrue (is_set_of any_key d)
Allows all property.MessageId d = IsTrue (is_some (list_in id_in d))
Allows all property.ReceivedAt d = IsTrue (is_utc_date d)
Allows all property.References d = IsTrue (is_some (list_in id_in d))
Allows all property.ReplyTo d = AreSomeAddresses d
Allows all property.Sender d = AreSomeAddresses d
Allows all property.SentAt d = IsTrue (is_some (date_in d))
Allows all property.Subject d = IsTrue (is_some (as_str d))
Allows all property.TextBody d = IsTrue (is_some (text_list_in all (codes "text/plain") d))
Allows all property.To d = AreSomeAddresses d

-- null says the same as that there is no value
abbrev pub OrNull : (Data → Type 0) → Data → Type 0
OrNull Is null = Unit {0}
OrNull Is d = Is d

-- one of a draft's properties, with a value that it may have
abbrev pub IsAllowedAs : Members → Option Property → Data → Type 0
IsAllowedAs all None d = ⊥
IsAllowedAs all (Some p) d = OrNull (Allows all p) d

abbrev pub IsAllowed : Members → List ℕ → Data → Type 0
IsAllowed all key d = IsAllowedAs all (property_named key) d

-- ---- refusals

-- a property that is refused
pub record IsRefused (all : Members) (key : List ℕ) : Type 0 where
  pub value : Data
  pub there : get_member key all ≡ Some value
  pub not_allowed : IsAllowed all key value → ⊥

-- the first of them, in the order of their names' octets
pub record IsFirstRefused (all : Members) (key : List ℕ) : Type 0 where
  pub refused : IsRefused all key
  pub first : (other : List ℕ) → IsRefused all other → slice_cmp nat_cmp key other ≢ Greater

-- no property is refused
abbrev pub NoneRefused : Members → Type 0
NoneRefused all = (key : List ℕ) (d : Data) → get_member key all ≡ Some d → IsAllowed all key d
