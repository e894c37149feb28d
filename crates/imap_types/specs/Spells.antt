-- The responses, and the texts that spell them (RFC 9051 section 9):
--
--   response = tag SP ("OK" / "NO" / "BAD") rest CRLF
--            / "+" *text CRLF
--            / "*" SP ("OK" / "NO" / "BAD" / "PREAUTH" / "BYE") rest CRLF
--            / "*" SP ("CAPABILITY" / "ENABLED") *(SP word) CRLF
--            / "*" SP "LIST" SP names SP (quoted / "NIL") SP astring [SP value] CRLF
--            / "*" SP "STATUS" SP astring SP "(" [word SP long *(SP word SP long)] ")" CRLF
--            / "*" SP "FLAGS" SP names CRLF
--            / "*" SP "VANISHED" SP ["(EARLIER)" SP] set CRLF
--            / "*" SP num SP ("EXISTS" / "EXPUNGE") CRLF
--            / "*" SP num SP "FETCH" SP "(" item *(SP item) ")" CRLF
--            / "*" SP other CRLF
use Rattle.std.specs.Prelude.{◌≡◌, ◌≢◌, ◌⊎◌, ℕ, ◌≤◌, false, List, [], ◌∷◌, ◌++◌, map, get_or, codes, Contains, Option, Some, None}
use Rattle.imap_types.specs.declared.response.Response.{Response}
use Rattle.imap_types.specs.declared.response.Response.TheVariants.{Tagged, Untagged, Continue, Capability, Enabled, List as Listing, StatusItems as Counts}
use Rattle.imap_types.specs.declared.response.Response.TheVariants.{Flags, Exists, Expunge, Fetch, Vanished, Other}
use Rattle.imap_types.specs.Octets.{is_word, lower}
use Rattle.imap_types.specs.declared.response.FetchItems.{FetchItems}
use Rattle.imap_types.specs.Texts.{Each, plain_octets, outside, limit, crlf, IsCrlf}
use Rattle.imap_types.specs.Numbers.{IsNumber}
use Rattle.imap_types.specs.Lines.{word_of, IsLine, IsCodedRest, IsTagged, IsWords}
use Rattle.imap_types.specs.UidSets.{IsVanished}
use Rattle.imap_types.specs.Items.{Item, IsNames, IsItems, kept, items_of}
use Rattle.imap_types.specs.Folders.{IsListLine, IsStatusLine}
use Rattle.imap_types.specs.Free.{IsFree}

-- the words with which no other response begins, after the number or none
abbrev pub keywords : Option ℕ → List (List ℕ)
keywords None =
    codes "ok" ∷ codes "no" ∷ codes "bad" ∷ codes "preauth" ∷ codes "bye" ∷ codes "capability" ∷ codes "enabled" ∷ codes "flags" ∷ codes "vanished" ∷ codes
    "list" ∷ codes "status" ∷ []
keywords (Some n) = codes "exists" ∷ codes "expunge" ∷ codes "fetch" ∷ []

-- SP names CRLF
abbrev pub IsFlagsLine : List (List ℕ) → List ℕ → Type 0
IsFlagsLine flags t = (ns : List (List ℕ)) × (names : List ℕ) × (t ≡ 32 ∷ names ++ crlf) × IsNames ns names × (flags ≡ kept ns)

-- SP "(" item *(SP item) ")" CRLF
abbrev pub IsItemsLine : FetchItems → List ℕ → Type 0
IsItemsLine items t = (is : List Item) × (rest : List ℕ) × (t ≡ 32 ∷ 40 ∷ rest) × IsItems is rest × (items ≡ items_of is)

-- what a line says, after the number n or none, by its first word in lower case and what follows the word
abbrev pub Says : Option ℕ → Response → List ℕ → List ℕ → List ℕ → Type 0
Says None (Untagged status code) word tail line = (word ≡ word_of status) × IsCodedRest code tail
Says None (Capability words) word tail line = (word ≡ codes "capability") × IsWords words tail
Says None (Enabled words) word tail line = (word ≡ codes "enabled") × IsWords words tail
Says None (Listing attributes delimiter name) word tail line = (word ≡ codes "list") × IsListLine attributes delimiter name tail
Says None (Counts name items) word tail line = (word ≡ codes "status") × IsStatusLine name items tail
Says None (Flags flags) word tail line = (word ≡ codes "flags") × IsFlagsLine flags tail
Says None (Vanished earlier uids) word tail line = (word ≡ codes "vanished") × ((rest : List ℕ) × (tail ≡ 32 ∷ rest) × IsVanished earlier uids.ranges rest)
Says (Some n) (Exists count) word tail line = (count ≡ n) × (word ≡ codes "exists") × IsCrlf tail
Says (Some n) (Expunge seq) word tail line = (seq ≡ n) × (word ≡ codes "expunge") × IsCrlf tail
Says (Some n) (Fetch seq items) word tail line = (seq ≡ n) × (word ≡ codes "fetch") × IsItemsLine items tail
Says number Other word tail line = (Contains (keywords number) word → ⊥) × ((literals : ℕ) × IsFree literals line)
Says _ _ word tail line = ⊥

-- a line by its first word, the longest run of octets of words
pub record IsWordLine (number : Option ℕ) (v : Response) (t : List ℕ) : Type 0 where
  pub word : List ℕ
  pub tail : List ℕ
  pub whole : t ≡ word ++ tail
  pub word_is : Each is_word word
  pub some : word ≢ []
  pub longest : is_word (get_or tail 0 0) ≡ false
  pub says : Says number v (map lower word) tail t

-- a number, a space and a line
abbrev pub Numbered : ℕ → List ℕ → List ℕ → Type 0
Numbered n line t = (digits : List ℕ) × (t ≡ digits ++ 32 ∷ line) × IsNumber n digits

-- what stands after `* `: after a number and a space the first word is the one after them
abbrev pub IsUntagged : Response → List ℕ → Type 0
IsUntagged v t =
    ((n : ℕ) × (line : List ℕ) × Numbered n line t × IsWordLine (Some n) v line)
    ⊎ (IsWordLine None v t × ((n : ℕ) (line : List ℕ) → Numbered n line t → ⊥))

-- the text spells the response
abbrev pub Spells : Response → List ℕ → Type 0
Spells (Tagged tag status code) t = IsTagged tag status code t
Spells Continue t = (line : List ℕ) × (t ≡ 43 ∷ line) × IsLine line
Spells v t = (line : List ℕ) × (t ≡ 42 ∷ 32 ∷ line) × IsUntagged v line

-- the octets are a spelling of the response
pub record IsSpelling (v : Response) (b : List ℕ) : Type 0 where
  pub text : List ℕ
  pub spells : Spells v text
  pub octets : plain_octets text ≡ b
  pub within : outside text ≤ limit
