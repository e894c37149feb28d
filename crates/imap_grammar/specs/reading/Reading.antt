-- How a spelling is read back: each function takes the octets from its place on. That it gives the spelled value is a
-- law of this crate.
use Rattle.std.specs.Prelude.{ℕ, ◌+◌, ◌&&◌, ◌==◌, if◌then◌else◌, List, length, map, take, drop, get_or}
use Rattle.std.specs.Prelude.{codes, bytes_eq, Option, Some, None, unwrap_or}
pub use Rattle.imap_values.specs.Spans.{in_name, cap, number_from, long_value, number_in}
unfoldable pub use Rattle.imap_values.specs.Spans.{span, count_from, names_in, flags_in, all_digits, is_sequence}
unfoldable pub use Rattle.imap_values.specs.Sets.{words_in, range_read, ranges_read, vanished_in}
use Rattle.imap_grammar.specs.reading.FolderReading.{list_in, status_in}
use Rattle.imap_types.specs.declared.response.Status.{Status}
use Rattle.imap_types.specs.declared.response.Status.TheVariants as status
use Rattle.imap_types.specs.declared.response.Response.{Response}
use Rattle.imap_types.specs.declared.response.Response.TheVariants.{Tagged, Untagged, Continue, Capability, Enabled, Flags, Exists, Expunge, Fetch}
use Rattle.imap_types.specs.declared.response.Response.TheVariants.{Other}
use Rattle.imap_types.specs.Octets.{is_word, lower}
use Rattle.imap_types.specs.Items.{no_items}
use Rattle.imap_types.specs.reading.CodeReading.{code_in}
unfoldable pub use Rattle.imap_grammar.specs.reading.ItemReading.{value_in, item_in, items_in}

-- ---- lines

unfoldable pub status_named : List ℕ → Option Status
status_named w =
    if bytes_eq w (codes "ok") then Some status.Ok
    else if bytes_eq w (codes "no") then Some status.No
    else if bytes_eq w (codes "bad") then Some status.Bad
    else if bytes_eq w (codes "preauth") then Some status.Preauth
    else if bytes_eq w (codes "bye") then Some status.Bye else None

-- the first word, in lower case
unfoldable pub word_in : List ℕ → List ℕ
word_in b = map lower (take (span is_word b) b)

unfoldable pub numbered_in : ℕ → List ℕ → Response
numbered_in seq b =
    if bytes_eq (word_in b) (codes "fetch") then Fetch seq (items_in (length b) no_items (drop 7 b))
    else if bytes_eq (word_in b) (codes "exists") then Exists seq
    else if bytes_eq (word_in b) (codes "expunge") then Expunge seq else Other

-- by the word and what follows it
unfoldable pub told_in : List ℕ → List ℕ → Response
told_in w tail =
    if bytes_eq w (codes "capability") then Capability (words_in (length tail) tail)
    else if bytes_eq w (codes "enabled") then Enabled (words_in (length tail) tail)
    else if bytes_eq w (codes "flags") then Flags (flags_in (drop 2 tail)).0
    else if bytes_eq w (codes "vanished") then vanished_in (drop 1 tail)
    else if bytes_eq w (codes "list") then list_in tail
    else if bytes_eq w (codes "status") then status_in tail else Other

-- by the status that the word names, or none
unfoldable pub said_in : Option Status → List ℕ → List ℕ → Response
said_in None w tail = told_in w tail
said_in (Some s) w tail = Untagged s (code_in tail)

unfoldable pub plain_in : List ℕ → Response
plain_in b = said_in (status_named (word_in b)) (word_in b) (drop (span is_word b) b)

-- from after `* ` on
unfoldable pub untagged_in : List ℕ → Response
untagged_in b =
    let n = span is_word b in
    if is_sequence (take n b) && get_or b n 0 == 32
    then numbered_in (number_in (take n b)) (drop (n + 1) b)
    else plain_in b

unfoldable pub tagged_in : List ℕ → Response
tagged_in b =
    let n = span in_name b in
    let line = drop (n + 1) b in
    Tagged (take n b) (unwrap_or (status_named (word_in line)) status.Bad) (code_in (drop (span is_word line) line))

unfoldable pub response_in : List ℕ → Response
response_in b =
    if get_or b 0 0 == 42 then untagged_in (drop 2 b)
    else if get_or b 0 0 == 43 then Continue else tagged_in b
