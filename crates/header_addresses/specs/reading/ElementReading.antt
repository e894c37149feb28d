-- The element at the front of a list of addresses, as functions on lists.
use Rattle.std.specs.Prelude.{◌≡◌, ℕ, ◌+◌, Bool, true, false, not, ◌&&◌, ◌||◌, if◌then◌else◌, List, [], ◌∷◌, ◌++◌, length, Option, Some, None}
use Rattle.std.specs.List.{list_all, filter}
use Rattle.text_words.specs.Cuts.{front, back}
use Rattle.text_words.specs.Sequence.{Sequence}
use Rattle.header_tokens.specs.Tokens.{Spelled}
use Rattle.header_tokens.specs.Kinds.{has_mark, is_gap, is_word}
use Rattle.header_addresses.specs.Mailboxes.{is_phrase, is_display_name, is_addr_spec, is_inner_token, behind_route, are_hops, Mailbox}
use Rattle.header_addresses.specs.AddressLists.{Element, IsElement, Empty, Head, End, Member, is_no_comma, is_no_separator, Grouped, run_of}

-- a token that may stand outside angle brackets in a mailbox or a phrase
abbrev pub is_plain_token : Spelled → Bool
is_plain_token s = not (has_mark 60 s || has_mark 62 s || has_mark 44 s || has_mark 58 s || has_mark 59 s)

abbrev pub is_no_greater : Spelled → Bool
is_no_greater s = not (has_mark 62 s)

-- whether nothing, or a token that fails the test, is at the front
abbrev pub stops : (Spelled → Bool) → List Spelled → Bool
stops p [] = true
stops p (s ∷ ts) = not (p s)

abbrev pub bare : List Spelled → Mailbox
bare spec = record { phrase = []; spec = spec; behind = spec }

abbrev pub in_angle : List Spelled → List Spelled → List Spelled → Mailbox
in_angle phrase inner gaps = record { phrase = phrase; spec = behind_route inner; behind = gaps }

abbrev pub some_bare : List Spelled → Option (Element × ℕ)
some_bare plain =
    if list_all is_gap plain then Some (Empty, length plain)
    else if is_addr_spec plain then Some (Member (bare plain), length plain)
    else None

-- a mailbox without angle brackets, or an empty place
abbrev pub bare_of : List Spelled → Option (Element × ℕ)
bare_of [] = None
bare_of (p ∷ ps) = some_bare (p ∷ ps)

abbrev pub head_of : List Spelled → Option (Element × ℕ)
head_of plain = if is_phrase plain then Some (Head plain, length plain + 1) else None

abbrev pub end_before : List Spelled → List Spelled → Option (Element × ℕ)
end_before gaps rest = if stops is_no_comma rest then Some (End, 1 + length gaps) else None

-- of what follows a semicolon
abbrev pub element_end : List Spelled → Option (Element × ℕ)
element_end more = end_before (front is_gap more) (back is_gap more)

abbrev pub angle_before : List Spelled → List Spelled → List Spelled → List Spelled → Option (Element × ℕ)
angle_before phrase inner gaps rest =
    if is_display_name phrase && is_inner_token inner && stops is_no_separator rest
    then Some (Member (in_angle phrase inner gaps), length phrase + 1 + length inner + 1 + length gaps)
    else None

-- of a phrase, what stands in angle brackets, and what follows the closing one
abbrev pub angle_of : List Spelled → List Spelled → List Spelled → Option (Element × ℕ)
angle_of phrase inner more = angle_before phrase inner (front is_gap more) (back is_gap more)

abbrev pub closed_of : List Spelled → List Spelled → List Spelled → Option (Element × ℕ)
closed_of phrase inner [] = None
closed_of phrase inner (greater ∷ more) = angle_of phrase inner more

-- of a phrase, and what follows the opening bracket
abbrev pub opened_of : List Spelled → List Spelled → Option (Element × ℕ)
opened_of phrase more = closed_of phrase (front is_no_greater more) (back is_no_greater more)

-- of a separator, and what follows it
abbrev pub separator_of : Spelled → List Spelled → Option (Element × ℕ)
separator_of s more =
    if has_mark 44 s then Some (Empty, 1)
    else if has_mark 59 s then element_end more
    else None

abbrev pub is_empty : List Spelled → Bool
is_empty [] = true
is_empty (s ∷ ts) = false

-- of the plain tokens at the front, the token after them, and what follows
abbrev pub marked_of : List Spelled → Spelled → List Spelled → Option (Element × ℕ)
marked_of plain s more =
    if has_mark 58 s then head_of plain
    else if has_mark 60 s then opened_of plain more
    else if has_mark 62 s then None
    else if is_empty plain then separator_of s more
    else bare_of plain

abbrev pub element_of : List Spelled → List Spelled → Option (Element × ℕ)
element_of plain [] = bare_of plain
element_of plain (s ∷ more) = marked_of plain s more

-- the element at the front, and how many tokens it has
unfoldable pub element_in : List Spelled → Option (Element × ℕ)
element_in ts = element_of (front is_plain_token ts) (back is_plain_token ts)

-- a word of the class where one is due, or else a dot
abbrev pub comes_in_turn : (Spelled → Bool) → Bool → Spelled → Bool
comes_in_turn word due s = if due then word s else has_mark 46 s

-- a dot, or a word that no word stands directly before
abbrev pub stands_apart : Bool → Spelled → Bool
stands_apart behind_word s = has_mark 46 s || (is_word s && not behind_word)

-- ---- the lists that elements make

-- whether the elements are a list of addresses, where `inside` says that a group is open
abbrev pub are_nested : Bool → List Element → Bool
are_nested inside [] = not inside
are_nested inside (Empty ∷ es) = are_nested inside es
are_nested inside (Head phrase ∷ es) = not inside && are_nested true es
are_nested inside (End ∷ es) = inside && are_nested false es
are_nested inside (Member m ∷ es) = are_nested inside es

abbrev pub is_addressee : Element → Bool
is_addressee Empty = false
is_addressee (Head phrase) = true
is_addressee End = false
is_addressee (Member m) = true

-- what a group or a run of mailboxes outside one comes to
abbrev pub group_closed : Option (List Spelled) → List Mailbox → List Grouped
group_closed None ms = run_of ms
group_closed (Some phrase) ms = (Some phrase, ms) ∷ []

-- the groups of the elements, where the one that is open has this phrase, and these mailboxes so far
abbrev pub grouped_from : Option (List Spelled) → List Mailbox → List Element → List Grouped
grouped_from phrase ms [] = group_closed phrase ms
grouped_from phrase ms (Empty ∷ es) = grouped_from phrase ms es
grouped_from phrase ms (Head next ∷ es) = group_closed phrase ms ++ grouped_from (Some next) [] es
grouped_from phrase ms (End ∷ es) = group_closed phrase ms ++ grouped_from None [] es
grouped_from phrase ms (Member m ∷ es) = grouped_from phrase (ms ++ m ∷ []) es

-- any element but an empty place
abbrev pub is_filled : Element → Bool
is_filled Empty = false
is_filled (Head phrase) = true
is_filled End = true
is_filled (Member m) = true

-- what was read was put at the end, unless it is an empty place, and how many tokens it has
abbrev pub Pushes : Option (Element × ℕ) → List Element → List Element → Option ℕ → Type 0
Pushes None old new len = len ≡ None
Pushes (Some p) old new len = (len ≡ Some p.1) × (new ≡ old ++ (if is_filled p.0 then p.0 ∷ [] else []))

-- the elements of the tokens without the empty places
pub record AreFilled (kept : List Element) (ts : List Spelled) : Type 0 where
  pub all : List Element
  pub are : Sequence IsElement all ts
  pub kept_is : kept ≡ filter is_filled all

-- the hops after the first, each after a comma
abbrev pub are_hops_behind : List Spelled → Bool
are_hops_behind [] = true
are_hops_behind (comma ∷ ts) = are_hops [] ts
