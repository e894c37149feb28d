-- Lists of addresses (RFC 5322 sections 3.4 and 4.4). A value is elements, one after another, and they make
-- mailboxes and groups.
use Rattle.std.specs.Prelude.{◌≡◌, ◌≢◌, ℕ, Bool, true, not, ◌||◌, List, [], ◌∷◌, ◌++◌, Option, Some, None}
use Rattle.text_words.specs.Cuts.{Each, IsRun, Stops}
use Rattle.text_words.specs.Sequence.{Sequence}
use Rattle.header_tokens.specs.declared.token.Alphabet.TheVariants as alphabet
use Rattle.header_tokens.specs.Tokens.{Spelled, AreTokens}
use Rattle.header_tokens.specs.Kinds.{has_mark, is_gap}
use Rattle.header_addresses.specs.Mailboxes.{is_phrase, is_display_name, is_addr_spec, is_inner_token, behind_route, Mailbox}

-- an element of a list: a comma or an empty place, a group's phrase with its colon, the semicolon that ends a group, or
-- a mailbox
pub data Element : Type 0 where
  Empty : Element
  Head : List Spelled → Element
  End : Element
  Member : Mailbox → Element

abbrev pub is_no_separator : Spelled → Bool
is_no_separator s = not (has_mark 44 s || has_mark 59 s)

abbrev pub is_no_comma : Spelled → Bool
is_no_comma s = not (has_mark 44 s)

-- a comma, a semicolon or nothing follows
abbrev pub EndsElement : List Spelled → Type 0
EndsElement rest = Stops is_no_separator rest

-- a comma or nothing follows
abbrev pub EndsGroup : List Spelled → Type 0
EndsGroup rest = Stops is_no_comma rest

-- name-addr: [phrase] "<" [obs-domain-list ":"] addr-spec ">", and the white space and comments after it
pub record NameAddr : Type 0 where
  pub phrase : List Spelled
  pub less : Spelled
  pub inner : List Spelled
  pub greater : Spelled
  pub gaps : List Spelled
  pub is_name : is_display_name phrase ≡ true
  pub opens : has_mark 60 less ≡ true
  pub is_inner : is_inner_token inner ≡ true
  pub closes : has_mark 62 greater ≡ true
  pub are_gaps : Each is_gap gaps

pub data IsElement : Element → List Spelled → List Spelled → Type 0 where
  Comma : (c : Spelled) (rest : List Spelled) → has_mark 44 c ≡ true → IsElement Empty (c ∷ []) rest
  Blank : (gaps rest : List Spelled) → IsRun is_gap gaps → EndsElement rest → IsElement Empty gaps rest
  -- phrase ":"
  Phrase : (phrase rest : List Spelled) (colon : Spelled) → is_phrase phrase ≡ true → has_mark 58 colon ≡ true
      → IsElement (Head phrase) (phrase ++ colon ∷ []) rest
  -- ";"
  Closed : (semicolon : Spelled) (gaps rest : List Spelled) → has_mark 59 semicolon ≡ true → Each is_gap gaps → EndsGroup rest
      → IsElement End (semicolon ∷ gaps) rest
  -- addr-spec
  Bare : (spec rest : List Spelled) → is_addr_spec spec ≡ true → EndsElement rest
      → IsElement (Member (record { phrase = []; spec = spec; behind = spec })) spec rest
  -- name-addr
  InAngle : (a : NameAddr) (rest : List Spelled) → EndsElement rest
      → IsElement (Member (record { phrase = a.phrase; spec = behind_route a.inner; behind = a.gaps }))
      (a.phrase ++ a.less ∷ (a.inner ++ a.greater ∷ a.gaps)) rest

-- address = mailbox / group
pub data Addressee : Type 0 where
  One : Mailbox → Addressee
  Group : List Spelled → List Mailbox → Addressee

-- obs-mbox-list / obs-group-list: places may be empty
pub data AreMailboxes : List Mailbox → List Element → Type 0 where
  NoMailboxes : AreMailboxes [] []
  EmptyPlace : (ms : List Mailbox) (es : List Element) → AreMailboxes ms es → AreMailboxes ms (Empty ∷ es)
  NextMailbox : (m : Mailbox) (ms : List Mailbox) (es : List Element) → AreMailboxes ms es → AreMailboxes (m ∷ ms) (Member m ∷ es)

-- a group, and the elements between its ":" and its ";"
pub record WrittenGroup : Type 0 where
  pub phrase : List Spelled
  pub mailboxes : List Mailbox
  pub inner : List Element
  pub are_mailboxes : AreMailboxes mailboxes inner

-- obs-addr-list: places may be empty
pub data AreAddressees : List Addressee → List Element → Type 0 where
  NoAddressees : AreAddressees [] []
  Passed : (who : List Addressee) (es : List Element) → AreAddressees who es → AreAddressees who (Empty ∷ es)
  NextOne : (m : Mailbox) (who : List Addressee) (es : List Element) → AreAddressees who es → AreAddressees (One m ∷ who) (Member m ∷ es)
  NextGroup : (g : WrittenGroup) (who : List Addressee) (es : List Element) → AreAddressees who es
      → AreAddressees (Group g.phrase g.mailboxes ∷ who) (Head g.phrase ∷ (g.inner ++ End ∷ es))

-- address-list: one or more mailboxes and groups
pub record IsAddressList (who : List Addressee) (t : List ℕ) : Type 0 where
  pub tokens : List Spelled
  pub are_tokens : AreTokens alphabet.Mail tokens t
  pub elements : List Element
  pub are_elements : Sequence IsElement elements tokens
  pub are_addressees : AreAddressees who elements
  pub some : who ≢ []

-- a group's phrase, and its mailboxes
abbrev pub Grouped : Type 0
Grouped = Option (List Spelled) × List Mailbox

-- a run of mailboxes outside a group is a group without a phrase
abbrev pub run_of : List Mailbox → List Grouped
run_of [] = []
run_of (m ∷ ms) = (None, m ∷ ms) ∷ []

-- the groups, where `run` are the mailboxes since the last one
abbrev pub groups_from : List Mailbox → List Addressee → List Grouped
groups_from run [] = run_of run
groups_from run (One m ∷ who) = groups_from (run ++ m ∷ []) who
groups_from run (Group phrase ms ∷ who) = run_of run ++ (Some phrase, ms) ∷ groups_from [] who

abbrev pub groups_of : List Addressee → List Grouped
groups_of who = groups_from [] who
