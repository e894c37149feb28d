-- What mailboxes and groups are called, and the addresses of mailboxes (RFC 5322 section 3.4).
use Rattle.std.specs.Prelude.{◌≡◌, ℕ, Bool, true, false, if◌then◌else◌, List, [], ◌∷◌, ◌++◌, Option, Some, None}
use Rattle.std.specs.List.{flat_map, AllZip}
use Rattle.text_words.specs.Cuts.{back}
use Rattle.text_words.specs.Octets.{is_white}
use Rattle.header_words.specs.EncodedWords.{IsText}
use Rattle.header_words.specs.OneLine.{one_line}
use Rattle.header_tokens.specs.declared.token.Kind.{Kind}
use Rattle.header_tokens.specs.declared.token.Kind.TheVariants as kind
use Rattle.header_addresses.specs.declared.address.Address.{Address}
use Rattle.header_addresses.specs.declared.address.Group.{Group}
use Rattle.mail_header.specs.Lines.{unfolded}
use Rattle.mail_header.specs.RawForms.{raw_form}
use Rattle.mail_header.specs.WhiteEnd.{without_white_end, some_text}
use Rattle.header_tokens.specs.Tokens.{Spelled}
use Rattle.header_tokens.specs.Kinds.{is_gap}
use Rattle.header_tokens.specs.Words.{bracketed_text}
use Rattle.header_addresses.specs.Mailboxes.{is_phrase, Mailbox}
use Rattle.header_addresses.specs.AddressLists.{Addressee, Grouped, IsAddressList, groups_of}

-- a quoted text or a comment in a name: what stands in it, without control characters
abbrev pub shown_inside : List ℕ → List ℕ
shown_inside t = one_line (bracketed_text t)

abbrev pub shown_word : Kind → List ℕ → List ℕ
shown_word kind.Quoted t = shown_inside t
shown_word _ t = t

-- ---- the text of a phrase: its words, unquoted, with a space for each gap between them, and without white space at its ends

abbrev pub space : Bool → List ℕ
space gap = if gap then 32 ∷ [] else []

-- `gap` says that one stands directly before
abbrev pub phrase_from : Bool → List Spelled → List ℕ
phrase_from gap [] = []
phrase_from gap (s ∷ ts) = if is_gap s then phrase_from true ts else space gap ++ (shown_word s.kind s.text ++ phrase_from false ts)

abbrev pub phrase_text : List Spelled → List ℕ
phrase_text ts = without_white_end (back is_white (phrase_from false (back is_gap ts)))

-- ---- the text of a comment: without its parentheses, and without white space at its ends

abbrev pub comment_text : List ℕ → List ℕ
comment_text t = without_white_end (back is_white (shown_inside t))

abbrev pub first_of : Option (List ℕ) → List ℕ → Option (List ℕ)
first_of None t = Some t
first_of (Some s) t = Some s

-- the first comment since the last lexeme, where `found` was it before this token
abbrev pub comment_after : Option (List ℕ) → Kind → List ℕ → Option (List ℕ)
comment_after found kind.Space t = found
comment_after found kind.Comment t = first_of found t
comment_after found _ t = None

-- the first comment after the last lexeme
abbrev pub comment_behind : Option (List ℕ) → List Spelled → Option (List ℕ)
comment_behind found [] = found
comment_behind found (s ∷ ts) = comment_behind (comment_after found s.kind s.text) ts

-- ---- names, in which encoded words are decoded

-- the name that a comment gives; an empty one is none
pub data IsCommentName : Option (List ℕ) → Option (List ℕ) → Type 0 where
  NoComment : IsCommentName None None
  OfComment : (comment name : List ℕ) → IsText false (comment_text comment) name → IsCommentName (Some comment) (some_text name)

-- the phrase's text, else that of the comment directly after the address
pub data IsName (m : Mailbox) : Option (List ℕ) → Type 0 where
  OfPhrase : (name : List ℕ) → is_phrase m.phrase ≡ true → IsText false (phrase_text m.phrase) name → IsName m (Some name)
  NoPhrase : (name : Option (List ℕ)) → is_phrase m.phrase ≡ false → IsCommentName (comment_behind None m.behind) name → IsName m name

-- ---- the address of a mailbox: its lexemes as they are spelled, without line ends

abbrev pub lexeme_text : Spelled → List ℕ
lexeme_text s = if is_gap s then [] else s.text

abbrev pub spelling : List Spelled → List ℕ
spelling [] = []
spelling (s ∷ ts) = lexeme_text s ++ spelling ts

abbrev pub email_text : List Spelled → List ℕ
email_text spec = unfolded (spelling spec)

pub record IsAddress (m : Mailbox) (a : Address) : Type 0 where
  pub name : IsName m a.name
  pub email : a.email ≡ email_text m.spec

-- the name of a group's phrase
pub data IsGroupName : Option (List Spelled) → Option (List ℕ) → Type 0 where
  NoName : IsGroupName None None
  Named : (phrase : List Spelled) (name : List ℕ) → IsText false (phrase_text phrase) name → IsGroupName (Some phrase) (Some name)

pub record IsGroup (g : Grouped) (group : Group) : Type 0 where
  pub name : IsGroupName g.0 group.name
  pub members : AllZip IsAddress g.1 group.members

-- ---- the forms of a raw value

abbrev pub HasNoAddressList : List ℕ → Type 0
HasNoAddressList raw = (who : List Addressee) → IsAddressList who (raw_form raw) → ⊥

-- the groups
pub data IsGroupsForm (raw : List ℕ) : Option (List Group) → Type 0 where
  NoGroups : HasNoAddressList raw → IsGroupsForm raw None
  Groups : (who : List Addressee) (list : List Group) → IsAddressList who (raw_form raw) → AllZip IsGroup (groups_of who) list → IsGroupsForm raw (Some list)

abbrev pub members_in : Group → List Address
members_in group = group.members

-- the addresses are the members of the groups
abbrev pub IsAddressesForm : List ℕ → Option (List Address) → Type 0
IsAddressesForm raw None = IsGroupsForm raw None
IsAddressesForm raw (Some list) = (groups : List Group) × IsGroupsForm raw (Some groups) × (list ≡ flat_map members_in groups)
