-- A request's head as it is read from its octets. Its form is RFC 9112's, with the liberties that a parser may take:
-- empty lines before it, and LF alone as a line's end (section 2.2).
use Rattle.std.specs.Prelude.{◌≡◌, ◌⊎◌, ◌↔◌, ◌==◌, ◌||◌, ◌++◌, ℕ, Bool, true, not, IsTrue, List, [], ◌∷◌, drop, map, codes}
use Rattle.httparse.specs.Grammar.{RequestHead, IsRequestHead, ReadsRequest, HasNoRequest, NeverHasRequest, MayBecomeRequest, EndsInTarget, print_request}
use Rattle.httparse.specs.Spans.{name_and_value}
use Rattle.text_words.specs.Octets.{is_alpha, is_digit}
use Rattle.text_words.specs.Cuts.{Each, Stops, front, back}
use Rattle.http_service.specs.declared.head.Head.{Head}
use Rattle.http_service.specs.declared.head.BodyKind.{BodyKind}
use Rattle.http_service.specs.Fields.{values_of, first_value, IsToken, IsBodyKind, Expects, content_length, transfer_encoding, authorization, content_type}
use Rattle.http_service.specs.Fields.{expect}

-- scheme = ALPHA *( ALPHA / DIGIT / "+" / "-" / "." ) (RFC 3986 section 3.1)
abbrev pub is_scheme_octet : ℕ → Bool
is_scheme_octet c = is_alpha c || is_digit c || c == 43 || c == 45 || c == 46

-- an octet of an authority ends before the path or the query (RFC 3986 section 3.2)
abbrev pub is_authority_octet : ℕ → Bool
is_authority_octet c = not (c == 47 || c == 63 || c == 35)

abbrev pub BeginsWithLetter : List ℕ → Type 0
BeginsWithLetter [] = ⊥
BeginsWithLetter (c ∷ octets) = is_alpha c ≡ true

-- absolute-form: a scheme and an authority stand before the path and the query (RFC 9112 section 3.2.2)
pub record IsAbsolute (target rest : List ℕ) : Type 0 where
  pub scheme : List ℕ
  pub authority : List ℕ
  pub whole : target ≡ scheme ++ (codes "://" ++ (authority ++ rest))
  pub begins : BeginsWithLetter scheme
  pub is_scheme : Each is_scheme_octet scheme
  pub is_authority : Each is_authority_octet authority
  pub ends : Stops is_authority_octet rest

-- the path and the query of a target: all of it but for a scheme and an authority
abbrev pub IsPathAndQuery : List ℕ → List ℕ → Type 0
IsPathAndQuery target rest = IsAbsolute target rest ⊎ (((other : List ℕ) → IsAbsolute target other → ⊥) × (rest ≡ target))

abbrev pub is_path_octet : ℕ → Bool
is_path_octet c = not (c == 63)

-- the path of a target, up to the first `?`, and the query, which follows that
pub record IsTarget (target path_text query_text : List ℕ) : Type 0 where
  pub both : List ℕ
  pub of_target : IsPathAndQuery target both
  pub path : path_text ≡ front is_path_octet both
  pub query : query_text ≡ drop 1 (back is_path_octet both)

-- what a head of this method, target, minor version and these fields says
pub record IsHeadOf (method_word target : List ℕ) (minor : ℕ) (fields : List (List ℕ × List ℕ)) (head : Head) : Type 0 where
  pub method : head.method ≡ method_word
  pub of_target : IsTarget target head.path head.query
  pub token : IsToken (values_of authorization fields) head.token
  pub content_type : head.content_type ≡ first_value (values_of content_type fields)
  pub body : IsBodyKind (values_of content_length fields) (values_of transfer_encoding fields) head.body
  pub expects : IsTrue head.expects ↔ Expects minor (first_value (values_of expect fields))

-- these fields tell no length of the body
abbrev pub HasNoBody : List (List ℕ × List ℕ) → Type 0
HasNoBody fields = (body : BodyKind) → IsBodyKind (values_of content_length fields) (values_of transfer_encoding fields) body → ⊥

-- what the head says
abbrev pub IsHead : RequestHead → Head → Type 0
IsHead h head = IsHeadOf h.method h.target h.minor (map name_and_value h.fields) head

-- the text of a head, and what it says
abbrev pub IsHeadText : List ℕ → Head → Type 0
IsHeadText text head = (h : RequestHead) × IsRequestHead h × (text ≡ print_request h) × IsHead h head

-- whatever follows, no head begins the octets, and they aren't cut inside a target; or one does whose fields tell no length
-- of the body
abbrev pub IsMalformed : List ℕ → Type 0
IsMalformed octets =
    (NeverHasRequest octets × (EndsInTarget octets → ⊥))
    ⊎ ((h : RequestHead) × (rest : List ℕ) × ReadsRequest octets h rest × HasNoBody (map name_and_value h.fields))

-- no head begins the octets, and one may where others follow
abbrev pub IsIncomplete : List ℕ → Type 0
IsIncomplete octets = HasNoRequest octets × MayBecomeRequest octets
