-- The responses that a store may send: those whose texts spell them (RFC 9051 section 9).
use Rattle.std.specs.Prelude.{◌≡◌, ◌≢◌, ℕ, ◌+◌, ◌^◌, ◌<◌, ◌≤◌, List, [], length, Option, Some, None, IfSome, All}
use Rattle.imap_types.specs.declared.code.Code.{Code}
use Rattle.imap_types.specs.declared.code.Code.TheVariants as code
use Rattle.imap_types.specs.declared.response.Response.{Response}
use Rattle.imap_types.specs.declared.response.Response.TheVariants as response
use Rattle.imap_types.specs.declared.response.FetchItems.{FetchItems}
use Rattle.imap_types.specs.declared.response.StatusItems.{StatusItems}
use Rattle.imap_types.specs.declared.uid_set.UidRange.{UidRange}
use Rattle.imap_types.specs.Octets.{is_alnum}
use Rattle.imap_types.specs.Texts.{Each, limit}
use Rattle.imap_types.specs.Lines.{Completes, AllPrinted}
use Rattle.imap_types.specs.Items.{AllNames, kept, header_limit, body_limit}
use Rattle.honest_store.specs.WellFormed.{IsToldName, IsToldOctet, nearest_date}
use Rattle.store_responses.specs.ResponseTexts.{item_texts, text_of_response}

-- nz-number
abbrev pub IsNonZeroNumber : ℕ → Type 0
IsNonZeroNumber n = (1 ≤ n) × (n < 2 ^ 32)

-- ---- sets of UIDs

pub record IsSendableRange (r : UidRange) : Type 0 where
  pub first : 1 ≤ r.first
  pub in_order : r.first ≤ r.last
  pub last : r.last < 2 ^ 32

-- no set is spelled without a range
pub record IsSendableSet (rs : List UidRange) : Type 0 where
  pub some : rs ≢ []
  pub ranges : All IsSendableRange rs

-- ---- codes

abbrev pub IsSendableCode : Code → Type 0
IsSendableCode (code.UidValidity n) = IsNonZeroNumber n
IsSendableCode (code.UidNext n) = IsNonZeroNumber n
IsSendableCode (code.HighestModSeq n) = n < 2 ^ 63
IsSendableCode (code.AppendUid validity uid) = IsNonZeroNumber validity × IsNonZeroNumber uid
IsSendableCode (code.CopyUid validity from to) = IsNonZeroNumber validity × IsSendableSet from.ranges × IsSendableSet to.ranges
IsSendableCode _ = Unit {0}

-- ---- tags and names

-- 1 to 32 letters and digits
pub record IsSendableTag (tag : List ℕ) : Type 0 where
  pub octets : Each is_alnum tag
  pub some : 0 < length tag
  pub few : length tag ≤ 32

-- flags or attributes: names in kept form
pub record AreSendableNames (ns : List (List ℕ)) : Type 0 where
  pub names : AllNames ns
  pub as_kept : kept ns ≡ ns

-- ---- items

-- at most so many octets
pub record IsSendableLiteral (most : ℕ) (s : List ℕ) : Type 0 where
  pub few : length s ≤ most
  pub octets : All (λ c. c < 256) s

-- no FETCH is spelled without an item
pub record AreSendableItems (items : FetchItems) : Type 0 where
  pub some : item_texts items ≢ []
  pub uid : IfSome items.uid IsNonZeroNumber
  pub flags : IfSome items.flags AreSendableNames
  pub modseq : IfSome items.modseq (λ n. n < 2 ^ 63)
  pub date : IfSome items.date (λ date. nearest_date date ≡ date)
  pub size : IfSome items.size (λ n. n < 2 ^ 63)
  pub header : IfSome items.header (IsSendableLiteral header_limit)
  pub body : IfSome items.body (IsSendableLiteral body_limit)

pub record AreSendableCounts (items : StatusItems) : Type 0 where
  pub messages : IfSome items.messages (λ n. n < 2 ^ 32)
  pub uid_next : IfSome items.uid_next (λ n. n < 2 ^ 32)
  pub uid_validity : IfSome items.uid_validity (λ n. n < 2 ^ 32)
  pub modseq : IfSome items.modseq (λ n. n < 2 ^ 63)

-- ---- responses

-- what the response tells is within what the grammar takes
abbrev pub HasSendableValues : Response → Type 0
HasSendableValues (response.Tagged tag s c) = IsSendableTag tag × Completes s × IsSendableCode c
HasSendableValues (response.Untagged s c) = IsSendableCode c
HasSendableValues response.Continue = Unit {0}
HasSendableValues (response.Capability words) = AllPrinted words
HasSendableValues (response.Enabled words) = AllPrinted words
HasSendableValues (response.List attributes delimiter name) = AreSendableNames attributes × IfSome delimiter IsToldOctet × IsToldName name
HasSendableValues (response.StatusItems name items) = IsToldName name × AreSendableCounts items
HasSendableValues (response.Flags flags) = AreSendableNames flags
HasSendableValues (response.Exists n) = n < 2 ^ 32
HasSendableValues (response.Expunge n) = n < 2 ^ 32
HasSendableValues (response.Fetch seq items) = (seq < 2 ^ 32) × AreSendableItems items
HasSendableValues (response.Vanished earlier uids) = IsSendableSet uids.ranges
HasSendableValues response.Other = Unit {0}

abbrev pub octets_of : Option (List ℕ) → ℕ
octets_of None = 0
octets_of (Some s) = length s

-- how many octets stand in its literals
abbrev pub literal_octets : Response → ℕ
literal_octets (response.Fetch seq items) = octets_of items.header + octets_of items.body
literal_octets _ = 0

-- with no more octets outside its literals than a response may have
pub record IsSendable (r : Response) : Type 0 where
  pub values : HasSendableValues r
  pub within : length (text_of_response r) ≤ literal_octets r + limit
