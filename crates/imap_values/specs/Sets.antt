-- How words and sets of UIDs are read back: each function takes the octets from its place on.
use Rattle.std.specs.Prelude.{ℕ, zero, suc, ◌+◌, true, false, ◌==◌, if◌then◌else◌, List, [], ◌∷◌, length, take, drop, get_or}
use Rattle.imap_types.specs.declared.response.Response.{Response}
use Rattle.imap_types.specs.declared.response.Response.TheVariants.{Vanished}
use Rattle.imap_types.specs.declared.uid_set.UidRange.{UidRange}
use Rattle.imap_types.specs.Octets.{is_digit, is_word}
use Rattle.imap_types.specs.UidSets.{range_of}
use Rattle.imap_values.specs.Spans.{span, number_in}

-- ---- words

-- at most n words, each after a space
unfoldable pub words_in : ℕ → List ℕ → List (List ℕ)
words_in zero b = []
words_in (suc most) b =
    if get_or b 0 0 == 32
    then (let w = drop 1 b in take (span is_word w) w ∷ words_in most (drop (span is_word w) w)) else []

-- ---- sets of UIDs

-- a range, and what follows it
unfoldable pub range_read : List ℕ → UidRange × List ℕ
range_read b =
    let n = span is_digit b in
    let first = number_in (take n b) in
    let after = drop n b in
    if get_or after 0 0 == 58
    then (let second = drop 1 after in (range_of first (number_in (take (span is_digit second) second)), drop (span is_digit second) second))
    else (range_of first first, after)

-- at most n ranges, each but the first after a comma
unfoldable pub ranges_read : ℕ → List ℕ → List UidRange
ranges_read zero b = []
ranges_read (suc most) b =
    let r = range_read b in
    r.0 ∷ (if get_or r.1 0 0 == 44 then ranges_read most (drop 1 r.1) else [])

-- after the space after VANISHED
unfoldable pub vanished_in : List ℕ → Response
vanished_in b =
    if get_or b 0 0 == 40
    then Vanished true (record { ranges = ranges_read (length b) (drop 10 b) })
    else Vanished false (record { ranges = ranges_read (length b) b })
