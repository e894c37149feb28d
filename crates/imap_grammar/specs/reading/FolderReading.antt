-- How a LIST and a STATUS are read back, from after the word on.
use Rattle.std.specs.Prelude.{ℕ, zero, suc, ◌+◌, ◌==◌, if◌then◌else◌, List, length, map, take, drop, get_or, Option, Some, None}
use Rattle.imap_types.specs.declared.response.StatusItems.{StatusItems}
use Rattle.imap_types.specs.declared.response.Response.{Response}
use Rattle.imap_types.specs.declared.response.Response.TheVariants.{List as Listing, StatusItems as Counts}
use Rattle.imap_types.specs.Octets.{is_digit, is_status_word, lower}
use Rattle.imap_types.specs.Folders.{folder_name, told_as, no_counts}
use Rattle.imap_values.specs.Spans.{span, long_value, flags_in}
use Rattle.imap_values.specs.Strings.{astring_in}

-- ---- LIST

unfoldable pub delimiter_in : List ℕ → Option ℕ × List ℕ
delimiter_in b =
    if get_or b 0 0 == 34
    then (if get_or b 1 0 == 92 then (Some (get_or b 2 0), drop 4 b) else (Some (get_or b 1 0), drop 3 b))
    else (None, drop 3 b)

unfoldable pub list_in : List ℕ → Response
list_in b =
    let f = flags_in (drop 2 b) in
    let d = delimiter_in (drop 1 f.1) in
    Listing f.0 d.0 (folder_name (astring_in (drop 1 d.1)).0)

-- ---- STATUS

-- a word and its number, and what follows them
unfoldable pub count_in : StatusItems → List ℕ → StatusItems × List ℕ
count_in so_far b =
    let n = span is_status_word b in
    let d = drop (n + 1) b in
    (told_as so_far (map lower (take n b)) (long_value (take (span is_digit d) d)), drop (span is_digit d) d)

-- at most n counts, each but the first after a space
unfoldable pub status_counts : ℕ → StatusItems → List ℕ → StatusItems
status_counts zero so_far b = so_far
status_counts (suc most) so_far b =
    let r = count_in so_far b in
    if get_or r.1 0 0 == 32 then status_counts most r.0 (drop 1 r.1) else r.0

-- after the opening bracket
unfoldable pub counts_in : List ℕ → StatusItems
counts_in b = if get_or b 0 0 == 41 then no_counts else status_counts (length b) no_counts b

unfoldable pub status_in : List ℕ → Response
status_in b =
    let s = astring_in (drop 1 b) in
    Counts (folder_name s.0) (counts_in (drop 2 s.1))
