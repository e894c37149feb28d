-- How the items of a FETCH are read back.
use Rattle.std.specs.Prelude.{ℕ, zero, suc, ◌+◌, ◌||◌, ◌==◌, if◌then◌else◌, List, [], ◌∷◌, map, take, drop, get_or, codes, bytes_eq, Option, Some, None}
use Rattle.imap_automaton.specs.ItemRules.{item_start}
use Rattle.imap_types.specs.declared.response.FetchItems.{FetchItems}
use Rattle.imap_grammar.specs.declared.items.Told.{Told}
use Rattle.imap_grammar.specs.declared.items.Told.TheVariants as told
use Rattle.imap_types.specs.Octets.{is_digit, is_atom, lower}
use Rattle.imap_types.specs.Items.{header_limit, body_limit}
use Rattle.imap_values.specs.Spans.{span, number_in, long_value, flags_in}
use Rattle.imap_values.specs.Strings.{astring_in}
use Rattle.imap_values.specs.Dates.{date_in}
use Rattle.imap_grammar.specs.reading.Passing.{passed}

-- NIL, or the string at the front, and what follows it
unfoldable pub nstring_in : List ℕ → List ℕ × List ℕ
nstring_in b = if lower (get_or b 0 0) == 110 then ([], drop 3 b) else astring_in b

-- what an item of this name tells, where it is told
unfoldable pub told_by : List ℕ → Option Told
told_by name =
    if bytes_eq name (codes "uid") then Some told.Uid else if bytes_eq name (codes "flags") then Some told.Flags
    else if bytes_eq name (codes "modseq") then Some told.ModSeq else if bytes_eq name (codes "internaldate") then Some told.Date
    else if bytes_eq name (codes "rfc822.size") then Some told.Size
    else if bytes_eq name (codes "body[header]") || bytes_eq name (codes "body[header]<0>") then Some told.Header
    else if bytes_eq name (codes "body[]") || bytes_eq name (codes "body[]<0>") then Some told.Body
    else None

-- an item's value by what it tells
unfoldable pub value_in : FetchItems → Told → List ℕ → FetchItems × List ℕ
value_in so_far told.Uid b = (let n = span is_digit b in (record so_far { uid = Some (number_in (take n b)) }, drop n b))
value_in so_far told.Flags b = (let f = flags_in (drop 1 b) in (record so_far { flags = Some f.0 }, f.1))
value_in so_far told.ModSeq b =
    (let d = drop 1 b in (record so_far { modseq = Some (long_value (take (span is_digit d) d)) }, drop (span is_digit d + 1) d))
value_in so_far told.Date b = (record so_far { date = Some (date_in b) }, drop 28 b)
value_in so_far told.Size b = (let n = span is_digit b in (record so_far { size = Some (long_value (take n b)) }, drop n b))
value_in so_far told.Header b = (let s = nstring_in b in (record so_far { header = Some (take header_limit s.0) }, s.1))
value_in so_far told.Body b = (let s = nstring_in b in (record so_far { body = Some (take body_limit s.0) }, s.1))

-- a told one's value, or what follows one that isn't told
abbrev pub value_or_passed : FetchItems → Option Told → List ℕ → List ℕ → FetchItems × List ℕ
value_or_passed so_far (Some t) value b = value_in so_far t value
value_or_passed so_far None value b = (so_far, drop (passed b (item_start ∷ [])) b)

-- the item at the front, and what follows it
unfoldable pub item_in : FetchItems → List ℕ → FetchItems × List ℕ
item_in so_far b = let n = span is_atom b in value_or_passed so_far (told_by (map lower (take n b))) (drop (n + 1) b) b

-- at most n items, each but the first after a space
unfoldable pub items_in : ℕ → FetchItems → List ℕ → FetchItems
items_in zero so_far b = so_far
items_in (suc most) so_far b =
    let r = item_in so_far b in
    if get_or r.1 0 0 == 32 then items_in most r.0 (drop 1 r.1) else r.0
