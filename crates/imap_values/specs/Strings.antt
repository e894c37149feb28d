-- How a string is read back, from its first octet on: its value, and what follows it.
use Rattle.std.specs.Prelude.{ℕ, Bool, true, false, ◌&&◌, ◌==◌, if◌then◌else◌, List, [], ◌∷◌, take, drop, get_or}
use Rattle.imap_types.specs.Octets.{is_digit, is_atom}
use Rattle.imap_values.specs.Spans.{span, number_in}

-- within a quoted text, after a `\` or not
unfoldable pub unquoted : Bool → List ℕ → List ℕ × List ℕ
unquoted pair [] = ([], [])
unquoted true (c ∷ b) = (c ∷ (unquoted false b).0, (unquoted false b).1)
unquoted false (c ∷ b) =
    if c == 34 then ([], b)
    else if c == 92 then unquoted true b
    else (c ∷ (unquoted false b).0, (unquoted false b).1)

-- after the opening brace of a literal
unfoldable pub literal_in : List ℕ → List ℕ × List ℕ
literal_in b =
    let n = span is_digit b in
    let count = number_in (take n b) in
    (take count (drop 3 (drop n b)), drop count (drop 3 (drop n b)))

unfoldable pub atom_in : List ℕ → List ℕ × List ℕ
atom_in b = (take (span is_atom b) b, drop (span is_atom b) b)

unfoldable pub astring_in : List ℕ → List ℕ × List ℕ
astring_in b =
    if get_or b 0 0 == 34 then unquoted false (drop 1 b)
    else if get_or b 0 0 == 123 then literal_in (drop 1 b)
    else if get_or b 0 0 == 126 && get_or b 1 0 == 123 then literal_in (drop 2 b)
    else atom_in b
