-- Charsets (RFC 2045 section 2.2, RFC 3629, ISO 8859-1), and the UTF-8 texts that octets spell in them.
use Rattle.std.specs.Prelude.{ℕ, Bool, true, false, not, ◌||◌, nat_lt, if◌then◌else◌, List, [], ◌∷◌, codes}
use Rattle.std.specs.Char.{encode_utf8}
use Rattle.std.specs.List.{flat_map, list_any}
use Rattle.std.specs.Str.{is_utf8}
use Rattle.std.specs.Str.Lossy.{utf8_lossy, replacement_bytes}
use Rattle.text_words.specs.Octets.{is_same_text}
use Rattle.header_words.specs.declared.charset.Charset.{Charset}
use Rattle.header_words.specs.declared.charset.Charset.TheVariants as charset

-- ---- names, with the aliases that IANA registers for them (RFC 2978), without regard to case

abbrev pub is_ascii_name : List ℕ → Bool
is_ascii_name name =
    is_same_text name (codes "us-ascii") || is_same_text name (codes "ascii") || is_same_text name (codes "us")
    || is_same_text name (codes "iso646-us") || is_same_text name (codes "ansi_x3.4-1968")

abbrev pub is_utf8_name : List ℕ → Bool
is_utf8_name name = is_same_text name (codes "utf-8") || is_same_text name (codes "utf8")

abbrev pub is_latin1_name : List ℕ → Bool
is_latin1_name name =
    is_same_text name (codes "iso-8859-1") || is_same_text name (codes "iso8859-1") || is_same_text name (codes "iso_8859-1")
    || is_same_text name (codes "latin1") || is_same_text name (codes "l1") || is_same_text name (codes "cp819")

-- the charset of a name
abbrev pub charset_of : List ℕ → Charset
charset_of name =
    if is_utf8_name name then charset.Utf8
    else if is_latin1_name name then charset.Latin1
    else if is_ascii_name name then charset.Ascii
    else charset.Unknown

-- ---- texts

abbrev pub is_ascii : ℕ → Bool
is_ascii c = nat_lt c 128

-- an octet of us-ascii; others become U+FFFD
abbrev pub ascii_octet : ℕ → List ℕ
ascii_octet c = if is_ascii c then c ∷ [] else replacement_bytes

-- the UTF-8 text that the octets spell; an unknown charset is read as us-ascii
abbrev pub text_in : Charset → List ℕ → List ℕ
text_in charset.Ascii b = flat_map ascii_octet b
text_in charset.Utf8 b = utf8_lossy b
text_in charset.Latin1 b = flat_map encode_utf8 b
text_in charset.Unknown b = flat_map ascii_octet b

-- whether the charset is unknown, or some of the octets spell nothing in it (RFC 8621 section 4.1.4)
abbrev pub has_problem_in : Charset → List ℕ → Bool
has_problem_in charset.Ascii b = list_any (λ c. not (is_ascii c)) b
has_problem_in charset.Utf8 b = not (is_utf8 b)
has_problem_in charset.Latin1 b = false
has_problem_in charset.Unknown b = true
