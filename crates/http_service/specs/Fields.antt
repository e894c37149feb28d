-- What the fields of a head say. A field is its name and its value, without the white space around it.
use Rattle.std.specs.Prelude.{◌≡◌, ◌++◌, ◌-◌, ◌^◌, ℕ, Bool, ◌==◌, min, List, [], ◌∷◌, map, filter, Option, Some, None, codes}
use Rattle.std.specs.Str.Parse.{digits_value}
use Rattle.text_words.specs.Octets.{SameText, is_same_text, is_digit}
use Rattle.text_words.specs.Cuts.{IsRun, Stops}
use Rattle.http_service.specs.declared.head.BodyKind.{BodyKind}
use Rattle.http_service.specs.declared.head.BodyKind.TheVariants.{Length, Chunked}

-- the field has this name; case doesn't count (RFC 9110 section 5.1)
abbrev pub is_named : List ℕ → List ℕ × List ℕ → Bool
is_named name field = is_same_text field.0 name

-- the values of the fields of this name, in order
abbrev pub values_of : List ℕ → List (List ℕ × List ℕ) → List (List ℕ)
values_of name fields = map (λ f. f.1) (filter (is_named name) fields)

abbrev pub first_value : List (List ℕ) → Option (List ℕ)
first_value [] = None
first_value (value ∷ values) = Some value

abbrev pub is_space : ℕ → Bool
is_space c = c == 32

abbrev pub IsScheme : List ℕ → Type 0
IsScheme word = SameText word (codes "bearer")

-- credentials = "Bearer" 1*SP token (RFC 6750 section 2.1)
pub record IsBearer (value token : List ℕ) : Type 0 where
  pub scheme : List ℕ
  pub gap : List ℕ
  pub whole : value ≡ scheme ++ (gap ++ token)
  pub bearer : IsScheme scheme
  pub spaces : IsRun is_space gap
  pub begins : Stops is_space token

-- the token of a value, where it has one
abbrev pub IsTokenOf : List ℕ → Option (List ℕ) → Type 0
IsTokenOf value (Some token) = IsBearer value token
IsTokenOf value None = (token : List ℕ) → IsBearer value token → ⊥

-- the token of the only Authorization field, where that is of the Bearer scheme
abbrev pub IsToken : List (List ℕ) → Option (List ℕ) → Type 0
IsToken [] given = given ≡ None
IsToken (value ∷ []) given = IsTokenOf value given
IsToken (value ∷ other ∷ more) given = given ≡ None

-- Content-Length = 1*DIGIT (RFC 9110 section 8.6); a number that is too large counts as the largest
abbrev pub IsLengthValue : List ℕ → ℕ → Type 0
IsLengthValue value n = IsRun is_digit value × (n ≡ min (digits_value 10 value) (2 ^ 64 - 1))

-- the length that the Content-Length fields say
abbrev pub IsLength : List (List ℕ) → ℕ → Type 0
IsLength [] n = n ≡ 0
IsLength (value ∷ []) n = IsLengthValue value n
IsLength (value ∷ other ∷ more) n = ⊥

-- the only transfer coding is chunked (RFC 9112 section 7)
abbrev pub IsChunkedCoding : List (List ℕ) → Type 0
IsChunkedCoding [] = ⊥
IsChunkedCoding (coding ∷ []) = SameText coding (codes "chunked")
IsChunkedCoding (coding ∷ other ∷ more) = ⊥

-- The body that the Content-Length and Transfer-Encoding fields say (RFC 9112 section 6.3). Neither field is an empty
-- body, and both together are none.
abbrev pub IsBodyKind : List (List ℕ) → List (List ℕ) → BodyKind → Type 0
IsBodyKind lengths codings (Length n) = (codings ≡ []) × IsLength lengths n
IsBodyKind lengths codings Chunked = (lengths ≡ []) × IsChunkedCoding codings

-- the client waits for `100 Continue`, which HTTP/1.0 doesn't have (RFC 9110 section 10.1.1)
abbrev pub Expects : ℕ → Option (List ℕ) → Type 0
Expects minor None = ⊥
Expects minor (Some value) = (minor ≡ 1) × SameText value (codes "100-continue")

-- names of fields
abbrev pub content_length : List ℕ
content_length = codes "content-length"

abbrev pub transfer_encoding : List ℕ
transfer_encoding = codes "transfer-encoding"

abbrev pub authorization : List ℕ
authorization = codes "authorization"

abbrev pub content_type : List ℕ
content_type = codes "content-type"

abbrev pub expect : List ℕ
expect = codes "expect"
