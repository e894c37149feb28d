-- Sets of keywords, and the flags that stand for them (RFC 8621 section 4.1.1).
use Rattle.std.specs.Prelude.{ℕ, not, List, [], ◌∷◌, map, filter, bytes_eq, codes, if◌then◌else◌}
use Rattle.std.specs.Set.{remove_key}
use Rattle.std.specs.Cmp.Lexicographic.{slice_cmp}
use Rattle.std.specs.Ordering.{nat_cmp}
use Rattle.imap_types.specs.Octets.{lower}
use Rattle.mail_maps.specs.Keywords.{has_name, sorted_into}

-- keywords differ in more than the case of letters
abbrev pub keyword_in : List ℕ → List ℕ
keyword_in k = map lower k

-- the flag of a keyword
abbrev pub flag_of : List ℕ → List ℕ
flag_of k =
    if bytes_eq k (codes "$seen") then codes "\\seen"
    else if bytes_eq k (codes "$answered") then codes "\\answered"
    else if bytes_eq k (codes "$flagged") then codes "\\flagged"
    else if bytes_eq k (codes "$draft") then codes "\\draft"
    else k

-- these sorted by octets, each once; with a further one, and without one
abbrev pub sorted_names : List (List ℕ) → List (List ℕ)
sorted_names names = sorted_into (slice_cmp nat_cmp) [] names

abbrev pub with_name : List ℕ → List (List ℕ) → List (List ℕ)
with_name name names = sorted_into (slice_cmp nat_cmp) names (name ∷ [])

abbrev pub without_name : List ℕ → List (List ℕ) → List (List ℕ)
without_name name names = remove_key (bytes_eq name) names

-- the flags of those keywords that aren't among the others
abbrev pub flags_missing : List (List ℕ) → List (List ℕ) → List (List ℕ)
flags_missing these those = map flag_of (filter (λ k. not (has_name k those)) these)
