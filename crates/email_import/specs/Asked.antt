-- What an EmailImport asks, and what is wrong with its properties (RFC 8621 section 4.8).
use Rattle.std.specs.Prelude.{◌≡◌, ◌≢◌, ℕ, Bool, true, false, List, codes, bytes_eq, if◌then◌else◌, is_some, Option, None, Some, option_and_then, Err}
use Rattle.std.specs.Cmp.Lexicographic.{slice_cmp}
use Rattle.std.specs.declared.cmp.Ordering.TheVariants.{Greater}
use Rattle.std.specs.Ordering.{nat_cmp}
use Rattle.serde_json.specs.Data.{Data, null, Members}
use Rattle.serde_json.specs.Find.{get_member, as_str}
use Rattle.jmap_values.specs.Dates.{utc_seconds_in}
use Rattle.jmap_values.specs.Keywords.{is_keyword}
use Rattle.set_given.specs.Given.{Given}
use Rattle.email_checks.specs.Asked.{is_map_of, names_folder}
use Rattle.email_checks.specs.Emails.{no_folder}
use Rattle.email_creation.specs.Asked.{mailbox_asked}

-- ---- values

abbrev pub is_text : Data → Bool
is_text d = is_some (as_str d)

-- a UTCDate (RFC 8620 section 1.4)
abbrev pub is_utc_date : Data → Bool
is_utc_date d = is_some (option_and_then utc_seconds_in (as_str d))

-- null says the same as that there is none
abbrev pub is_date_or_null : Data → Bool
is_date_or_null null = true
is_date_or_null d = is_utc_date d

-- a property that an EmailImport has, with a value that it may have
abbrev pub is_import_value : Given → List ℕ → Data → Bool
is_import_value g key d =
    if bytes_eq key (codes "blobId") then is_text d
    else if bytes_eq key (codes "keywords") then is_map_of is_keyword d
    else if bytes_eq key (codes "mailboxIds") then is_map_of (names_folder g) d
    else if bytes_eq key (codes "receivedAt") then is_date_or_null d
    else false

-- ---- the blob

abbrev pub blob_asked : Members → Option (List ℕ)
blob_asked ms = option_and_then as_str (get_member (codes "blobId") ms)

-- ---- properties that are wrong

-- a member that an import can't have
pub record IsWrongMember (g : Given) (ms : Members) (key : List ℕ) : Type 0 where
  pub value : Data
  pub there : get_member key ms ≡ Some value
  pub wrong : is_import_value g key value ≡ false

-- such a member; or no blob is named; or no Mailbox is
pub data IsWrong (g : Given) (ms : Members) (key : List ℕ) : Type 0 where
  OfMember : IsWrongMember g ms key → IsWrong g ms key
  NoBlob : key ≡ codes "blobId" → blob_asked ms ≡ None → IsWrong g ms key
  NoMailbox : key ≡ codes "mailboxIds" → mailbox_asked g ms ≡ Err no_folder → IsWrong g ms key

-- the first of them, in the order of their names' octets
pub record IsFirst (Is : List ℕ → Type 0) (key : List ℕ) : Type 0 where
  pub is : Is key
  pub first : (other : List ℕ) → Is other → slice_cmp nat_cmp key other ≢ Greater

abbrev pub AreNone : (List ℕ → Type 0) → Type 0
AreNone Is = (key : List ℕ) → Is key → ⊥
