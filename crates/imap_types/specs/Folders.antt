-- What is told of folders: LIST (RFC 9051 section 7.3.1) and STATUS (section 7.3.3, RFC 7162 section 3.1.2.1).
use Rattle.std.specs.Prelude.{◌≡◌, ◌⊎◌, ℕ, ◌<◌, nat_le, if◌then◌else◌, List, [], ◌∷◌, ◌++◌, length, map, codes, bytes_eq, Option, Some, None}
use Rattle.imap_types.specs.declared.response.StatusItems.{StatusItems}
use Rattle.imap_types.specs.Octets.{is_status_word, lower}
use Rattle.imap_types.specs.Texts.{Each, Then, crlf, IsCrlf, IsWord}
use Rattle.imap_types.specs.Numbers.{IsLong}
use Rattle.imap_types.specs.Strings.{IsQuoted, IsAString}
use Rattle.imap_types.specs.Values.{IsValue, nesting}
use Rattle.imap_types.specs.Items.{IsNames, kept}

-- a folder's name as it was told, or INBOX whatever the case of its letters (RFC 9051 section 5.1)
abbrev pub folder_name : List ℕ → List ℕ
folder_name s = if bytes_eq (map lower s) (codes "inbox") then codes "INBOX" else s

-- ---- LIST

-- quoted / "NIL", the quoted text of one octet
abbrev pub IsDelimiter : Option ℕ → List ℕ → Type 0
IsDelimiter None t = IsWord (codes "nil") t
IsDelimiter (Some c) t = IsQuoted (c ∷ []) t

-- [SP value] CRLF
abbrev pub IsListEnd : List ℕ → Type 0
IsListEnd t = IsCrlf t ⊎ ((value : List ℕ) × (t ≡ 32 ∷ value ++ crlf) × IsValue nesting value)

-- SP names SP (quoted / "NIL") SP astring [SP value] CRLF
pub record IsListLine (attributes : List (List ℕ)) (delimiter : Option ℕ) (name t : List ℕ) : Type 0 where
  pub told : List (List ℕ)
  pub string : List ℕ
  pub first : List ℕ
  pub second : List ℕ
  pub third : List ℕ
  pub rest : List ℕ
  pub whole : t ≡ 32 ∷ first ++ (32 ∷ second ++ (32 ∷ third ++ rest))
  pub names : IsNames told first
  pub delimited : IsDelimiter delimiter second
  pub spelled : IsAString string third
  pub ends : IsListEnd rest
  pub attributes_are : attributes ≡ kept told
  pub name_is : name ≡ folder_name string

-- ---- STATUS

-- word SP long, a word and a number
pub record IsCount (c : List ℕ × ℕ) (t : List ℕ) : Type 0 where
  pub digits : List ℕ
  pub whole : t ≡ c.0 ++ 32 ∷ digits
  pub word : Each is_status_word c.0
  pub some : 0 < length c.0
  pub number : IsLong c.1 digits

-- *(SP count) ")" CRLF
abbrev pub IsMoreCounts : List (List ℕ × ℕ) → List ℕ → Type 0
IsMoreCounts [] t = t ≡ 41 ∷ crlf
IsMoreCounts (c ∷ cs) t = (x y : List ℕ) × (t ≡ 32 ∷ x ++ y) × IsCount c x × IsMoreCounts cs y

-- [count *(SP count)] ")" CRLF
abbrev pub IsCounts : List (List ℕ × ℕ) → List ℕ → Type 0
IsCounts [] t = t ≡ 41 ∷ crlf
IsCounts (c ∷ cs) t = Then (IsCount c) (IsMoreCounts cs) t

abbrev pub told_small : StatusItems → List ℕ → ℕ → StatusItems
told_small items word n =
    if bytes_eq word (codes "messages") then record items { messages = Some n }
    else if bytes_eq word (codes "uidnext") then record items { uid_next = Some n }
    else if bytes_eq word (codes "uidvalidity") then record items { uid_validity = Some n } else items

-- A count takes the place of an earlier one of its word. MESSAGES, UIDNEXT and UIDVALIDITY above 2^32 - 1 are passed over.
abbrev pub told_as : StatusItems → List ℕ → ℕ → StatusItems
told_as items word n =
    if bytes_eq word (codes "highestmodseq") then record items { modseq = Some n }
    else if nat_le n 4294967295 then told_small items word n else items

abbrev pub told_counts : StatusItems → List (List ℕ × ℕ) → StatusItems
told_counts items [] = items
told_counts items (c ∷ cs) = told_counts (told_as items (map lower c.0) c.1) cs

abbrev pub no_counts : StatusItems
no_counts = record { messages = None; uid_next = None; uid_validity = None; modseq = None }

-- SP astring SP "(" [count *(SP count)] ")" CRLF
pub record IsStatusLine (name : List ℕ) (items : StatusItems) (t : List ℕ) : Type 0 where
  pub string : List ℕ
  pub counts : List (List ℕ × ℕ)
  pub first : List ℕ
  pub rest : List ℕ
  pub whole : t ≡ 32 ∷ first ++ 32 ∷ 40 ∷ rest
  pub spelled : IsAString string first
  pub counted : IsCounts counts rest
  pub name_is : name ≡ folder_name string
  pub items_are : items ≡ told_counts no_counts counts
