-- The forms of a raw value as a text.
use Rattle.std.specs.Prelude.{ℕ, Bool, false, not, ◌==◌, List}
use Rattle.std.specs.List.{filter}
use Rattle.std.specs.Str.Lossy.{utf8_lossy}
use Rattle.text_words.specs.Cuts.{back}
use Rattle.text_words.specs.Octets.{is_blank}
use Rattle.header_words.specs.EncodedWords.{IsTextBetween}
use Rattle.header_words.specs.declared.encoded_word.Edges.{Edges}
use Rattle.header_words.specs.declared.encoded_word.Edges.TheVariants as edges
use Rattle.mail_header.specs.Lines.{unfolded}

abbrev pub is_no_zero : ℕ → Bool
is_no_zero c = not (c == 0)

-- octets 0 are dropped, and invalid UTF-8 becomes U+FFFD
abbrev pub raw_form : List ℕ → List ℕ
raw_form raw = utf8_lossy (filter is_no_zero raw)

-- line ends are removed (RFC 5322 section 2.2.3), white space at the front too, and encoded words that stand between
-- edges of this kind are decoded
abbrev pub IsTextFormBetween : Edges → List ℕ → List ℕ → Type 0
IsTextFormBetween at text raw = IsTextBetween at false (back is_blank (unfolded (raw_form raw))) text

-- the form Text (RFC 8621 section 4.1.2.2)
abbrev pub IsTextForm : List ℕ → List ℕ → Type 0
IsTextForm text raw = IsTextFormBetween edges.White text raw

-- the text in which an address field is searched: a quotation mark too is an edge of an encoded word
abbrev pub IsSearchForm : List ℕ → List ℕ → Type 0
IsSearchForm text raw = IsTextFormBetween edges.Quotes text raw
