-- Encoded words (RFC 2047 section 2), and the text of a value that has some.
use Rattle.std.specs.Prelude.{◌≡◌, ◌≢◌, ℕ, ◌≤◌, Bool, true, not, ◌&&◌, ◌||◌, ◌==◌, nat_lt, if◌then◌else◌, List, [], ◌∷◌, ◌++◌, length}
use Rattle.std.specs.List.{list_all, filter, flat_map}
use Rattle.text_words.specs.Cuts.{Each, IsRun, Stops, front}
use Rattle.text_words.specs.Octets.{is_between, is_white}
use Rattle.header_words.specs.Charsets.{charset_of, text_in}
use Rattle.header_words.specs.Base64.{IsBase64}
use Rattle.header_words.specs.QuotedText.{IsQText}
use Rattle.header_words.specs.declared.charset.Charset.{Charset}
use Rattle.header_words.specs.declared.charset.Charset.TheVariants as charset
use Rattle.header_words.specs.declared.encoded_word.Edges.{Edges}
use Rattle.header_words.specs.declared.encoded_word.Edges.TheVariants as edges

-- ( ) < > @ , ; : " / [ ] ? . =
abbrev pub is_especial : ℕ → Bool
is_especial c =
    is_between 40 41 c || c == 60 || is_between 62 64 c || c == 44 || is_between 58 59 c || c == 34
    || c == 47 || c == 91 || c == 93 || c == 46 || c == 61

-- an octet of a charset's name
abbrev pub is_charset_octet : ℕ → Bool
is_charset_octet c = is_between 33 126 c && not (is_especial c)

-- an octet of an encoded text: any that is printed, but "?"
abbrev pub is_encoded : ℕ → Bool
is_encoded c = is_between 33 126 c && not (c == 63)

abbrev pub is_b : ℕ → Bool
is_b c = c == 66 || c == 98

abbrev pub is_q : ℕ → Bool
is_q c = c == 81 || c == 113

-- the octets that a text spells in the encoding of this letter, "B" or "Q"
pub data Spells (letter : ℕ) (octets text : List ℕ) : Type 0 where
  InBase64 : is_b letter ≡ true → IsBase64 octets text → Spells letter octets text
  InQ : is_q letter ≡ true → IsQText octets text → Spells letter octets text

-- "=?" charset "?" letter "?" encoded-text "?=", and what follows it. The encoded text may be empty.
pub record HasShape (charset : List ℕ) (letter : ℕ) (text behind t : List ℕ) : Type 0 where
  pub whole : t ≡ 61 ∷ 63 ∷ (charset ++ 63 ∷ letter ∷ 63 ∷ (text ++ 63 ∷ 61 ∷ behind))
  pub token : IsRun is_charset_octet charset
  pub printed : Each is_encoded text

-- a language may follow the charset's name after a "*" (RFC 2231 section 5)
abbrev pub charset_name : List ℕ → List ℕ
charset_name charset = front (λ c. not (c == 42)) charset

-- what an encoded word spells: octets in a charset
pub record Coded : Type 0 where
  pub charset : Charset
  pub octets : List ℕ

-- An encoded word, and what it spells. The charset's name has one octet at least.
pub record IsEncodedWord (coded : Coded) (word : List ℕ) : Type 0 where
  pub charset : List ℕ
  pub letter : ℕ
  pub text : List ℕ
  pub shape : HasShape charset letter text [] word
  pub named : charset_name charset ≢ []
  pub spelled : Spells letter coded.octets text
  pub known : coded.charset ≡ charset_of (charset_name charset)

-- white space or a parenthesis
abbrev pub is_white_edge : ℕ → Bool
is_white_edge c = is_white c || is_between 40 41 c

-- an edge, beside which an encoded word may stand
abbrev pub is_edge : Edges → ℕ → Bool
is_edge edges.White c = is_white_edge c
is_edge edges.Quotes c = is_white_edge c || c == 34

-- the text is empty or begins at an edge
abbrev pub BeginsAtEdge : Edges → List ℕ → Type 0
BeginsAtEdge at t = Stops (λ c. not (is_edge at c)) t

-- whether the text ends at an edge, where `edge` says so of what stands before it
abbrev pub ends_at_edge : Edges → Bool → List ℕ → Bool
ends_at_edge at edge [] = edge
ends_at_edge at edge (c ∷ t) = ends_at_edge at (is_edge at c) t

-- an encoded word, before an edge
abbrev pub IsWordBefore : Edges → Coded → List ℕ → List ℕ → Type 0
IsWordBefore at coded word behind = IsEncodedWord coded word × BeginsAtEdge at behind

-- an encoded word stands between these texts: at edges, or at the ends of the value
pub record StandsBetween (at : Edges) (coded : Coded) (before encoded behind : List ℕ) : Type 0 where
  pub edge_before : ends_at_edge at true before ≡ true
  pub word : IsEncodedWord coded encoded
  pub edge_behind : BeginsAtEdge at behind

-- no encoded word stands in the value at a place before n
abbrev pub NoneBefore : Edges → ℕ → List ℕ → Type 0
NoneBefore at n t = (coded : Coded) (before word behind : List ℕ) → t ≡ before ++ (word ++ behind) → StandsBetween at coded before word behind → n ≤ length before

abbrev pub HasNone : Edges → List ℕ → Type 0
HasNone at t = (coded : Coded) (before word behind : List ℕ) → t ≡ before ++ (word ++ behind) → StandsBetween at coded before word behind → ⊥

-- the first encoded word of the value
pub record IsFirst (at : Edges) (coded : Coded) (before word behind t : List ℕ) : Type 0 where
  pub whole : t ≡ before ++ (word ++ behind)
  pub stands : StandsBetween at coded before word behind
  pub first : NoneBefore at (length before) t

-- the first encoded word of a value, and what stands before and after it
pub record FirstEncodedWord (at : Edges) (value : List ℕ) : Type 0 where
  pub coded : Coded
  pub before : List ℕ
  pub word : List ℕ
  pub behind : List ℕ
  pub is : IsFirst at coded before word behind value

-- 0 to 31 and 127
abbrev pub is_control : ℕ → Bool
is_control c = nat_lt c 32 || c == 127

abbrev pub is_printed : ℕ → Bool
is_printed c = not (is_control c)

-- the text of encoded words: control characters are dropped (RFC 8621 section 4.1.2.2)
abbrev pub text_of_words : Charset → List ℕ → List ℕ
text_of_words charset octets = filter is_printed (text_in charset octets)

-- A span of a value: a text, or octets in UTF-8 that encoded words spell.
pub data Span : Type 0 where
  Text : List ℕ → Span
  InUtf8 : List ℕ → Span

-- an encoded word in another charset than UTF-8 is a text by itself
abbrev pub span_in : Charset → List ℕ → Span
span_in charset.Utf8 b = InUtf8 b
span_in charset.Ascii b = Text (text_of_words charset.Ascii b)
span_in charset.Latin1 b = Text (text_of_words charset.Latin1 b)
span_in charset.Unknown b = Text (text_of_words charset.Unknown b)

abbrev pub span_of : Coded → Span
span_of coded = span_in coded.charset coded.octets

-- what stands before an encoded word; white space between two of them is dropped
abbrev pub kept : Bool → List ℕ → List Span
kept behind_word between = if behind_word && list_all is_white between then [] else Text between ∷ []

-- The spans of a value: its encoded words, in order, and what stands between them. `behind_word` says that an encoded
-- word stands directly before the value.
pub data AreSpans (at : Edges) : Bool → List Span → List ℕ → Type 0 where
  Plain : (behind_word : Bool) (value : List ℕ) → HasNone at value → AreSpans at behind_word (Text value ∷ []) value
  Worded : (behind_word : Bool) (spans : List Span) (value : List ℕ) (first : FirstEncodedWord at value) → AreSpans at true spans first.behind
      → AreSpans at behind_word (kept behind_word first.before ++ span_of first.coded ∷ spans) value

-- Spans in UTF-8 that stand side by side are one: a character may be split over encoded words. No sender may do so
-- (RFC 2047 section 5), and many do.
abbrev pub with_span : Span → List Span → List Span
with_span (Text t) spans = Text t ∷ spans
with_span (InUtf8 a) [] = InUtf8 a ∷ []
with_span (InUtf8 a) (Text t ∷ spans) = InUtf8 a ∷ Text t ∷ spans
with_span (InUtf8 a) (InUtf8 b ∷ spans) = InUtf8 (a ++ b) ∷ spans

abbrev pub runs_of : List Span → List Span
runs_of [] = []
runs_of (s ∷ spans) = with_span s (runs_of spans)

abbrev pub run_text : Span → List ℕ
run_text (Text t) = t
run_text (InUtf8 b) = text_of_words charset.Utf8 b

-- the text of spans: each longest run of encoded words in UTF-8 is decoded as one
abbrev pub text_of_spans : List Span → List ℕ
text_of_spans spans = flat_map run_text (runs_of spans)

-- the text of a value whose encoded words stand between edges of this kind
pub record IsTextBetween (at : Edges) (behind_word : Bool) (value text : List ℕ) : Type 0 where
  pub spans : List Span
  pub are : AreSpans at behind_word spans value
  pub text_is : text ≡ text_of_spans spans

-- the text of a value (RFC 2047 section 6)
abbrev pub IsText : Bool → List ℕ → List ℕ → Type 0
IsText behind_word value text = IsTextBetween edges.White behind_word value text
