-- Media types (RFC 2045 section 5.1).
use Rattle.std.specs.Prelude.{ℕ, Bool, true, false, not, ◌&&◌, ◌||◌, ◌==◌, nat_le, List, [], ◌∷◌, length, codes, Option, Some, None}
use Rattle.std.specs.List.{list_all}
use Rattle.text_words.specs.Cuts.{front, back}
use Rattle.text_words.specs.Octets.{is_between, is_same_text}

-- ( ) < > @ , ; : \ " / [ ] ? =
abbrev pub is_tspecial : ℕ → Bool
is_tspecial c =
    is_between 40 41 c || c == 60 || is_between 62 64 c || c == 44 || is_between 58 59 c || c == 92 || c == 34 || c == 47 || c == 91 || c == 93
    || c == 61

-- an octet of a token
abbrev pub is_token_octet : ℕ → Bool
is_token_octet c = is_between 33 126 c && not (is_tspecial c)

abbrev pub is_token : List ℕ → Bool
is_token t = nat_le 1 (length t) && list_all is_token_octet t

abbrev pub is_no_slash : ℕ → Bool
is_no_slash c = not (c == 47)

-- "/" and a token
abbrev pub is_subtype : List ℕ → Bool
is_subtype [] = false
is_subtype (slash ∷ t) = is_token t

-- composite-type = "message" / "multipart": no part of such a type is in base64 (RFC 2045 section 6.4)
abbrev pub is_composite : List ℕ → Bool
is_composite t = is_same_text t (codes "multipart") || is_same_text t (codes "message")

-- two tokens round one "/"
abbrev pub is_media_type : List ℕ → Bool
is_media_type t = is_token (front is_no_slash t) && is_subtype (back is_no_slash t)

-- two tokens round one "/", of which the first is a discrete-type's
abbrev pub is_leaf_type : List ℕ → Bool
is_leaf_type t = is_media_type t && not (is_composite (front is_no_slash t))

-- a token, where there is one
abbrev pub is_token_or_none : Option (List ℕ) → Bool
is_token_or_none None = true
is_token_or_none (Some t) = is_token t
