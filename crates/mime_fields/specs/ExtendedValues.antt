-- Extended values of parameters (RFC 8187 section 3.2): a charset, an apostrophe, a language, an apostrophe, and
-- octets with percent escapes. The value is octets as the field has them.
use Rattle.std.specs.Prelude.{ℕ, Bool, not, ◌==◌, List, [], ◌∷◌, Option, Some, None}
use Rattle.std.specs.Option.{option_map, option_and_then}
use Rattle.text_words.specs.Cuts.{front, back}
use Rattle.header_words.specs.Charsets.{charset_of, text_in}
use Rattle.header_words.specs.OneLine.{one_line}
use Rattle.mail_header.specs.WhiteEnd.{some_text}
use Rattle.percent_encoding.specs.Percent.{percent_decode}

abbrev pub is_no_apostrophe : ℕ → Bool
is_no_apostrophe c = not (c == 39)

abbrev pub after_first : List ℕ → Option (List ℕ)
after_first [] = None
after_first (c ∷ t) = Some t

-- what follows the first apostrophe
abbrev pub behind_apostrophe : List ℕ → Option (List ℕ)
behind_apostrophe t = after_first (back is_no_apostrophe t)

-- the text of the octets after the second apostrophe, in the charset before the first
abbrev pub extended_text : List ℕ → Option (List ℕ)
extended_text t =
    option_map (λ (escaped : List ℕ). text_in (charset_of (front is_no_apostrophe t)) (percent_decode escaped))
    (option_and_then behind_apostrophe (behind_apostrophe t))

-- the name that it is, as one line; there is none without an octet
abbrev pub extended_name : List ℕ → Option (List ℕ)
extended_name t = option_and_then (λ (text : List ℕ). some_text (one_line text)) (extended_text t)
