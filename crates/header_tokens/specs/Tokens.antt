-- The tokens of a header's value (RFC 5322 section 3.2), and the texts that spell them. In a field of MIME
-- other octets are marks of their own (RFC 2045 section 5.1).
use Rattle.std.specs.Prelude.{◌≡◌, ◌≢◌, ℕ, Bool, true, not, ◌&&◌, ◌||◌, ◌==◌, nat_lt, List, [], ◌∷◌, ◌++◌}
use Rattle.text_words.specs.Cuts.{IsRun, Stops}
use Rattle.text_words.specs.Octets.{is_white}
use Rattle.text_words.specs.Sequence.{Starts, Sequence}
use Rattle.header_tokens.specs.declared.token.Alphabet.{Alphabet}
use Rattle.header_tokens.specs.declared.token.Alphabet.TheVariants as alphabet
use Rattle.header_tokens.specs.declared.token.Kind.{Kind}
use Rattle.header_tokens.specs.declared.token.Kind.TheVariants as kind

-- a token of one octet: < > @ , ; : and a dot, or / ? =
abbrev pub is_mark : Alphabet → ℕ → Bool
is_mark alphabet.Mail c = c == 60 || c == 62 || c == 64 || c == 44 || c == 59 || c == 58 || c == 46
is_mark alphabet.Mime c = c == 60 || c == 62 || c == 64 || c == 44 || c == 59 || c == 58 || c == 47 || c == 63 || c == 61

-- an octet of an atom: those above 127 are letters
abbrev pub is_letter : Alphabet → ℕ → Bool
is_letter a c = nat_lt 32 c && not (c == 127) && not (is_mark a c) && not (c == 34) && not (c == 40) && not (c == 41) && not (c == 91) && not (c == 93) && not
    (c == 92)

-- What stands between a bracket and the one that closes it: octets, pairs of a backslash and any octet, and
-- the same again in brackets.
pub data Contents (opener closer : ℕ) : List ℕ → Type 0 where
  Empty : Contents opener closer []
  Octet : (c : ℕ) (t : List ℕ) → c ≢ opener → c ≢ closer → c ≢ 92 → Contents opener closer t → Contents opener closer (c ∷ t)
  Pair : (c : ℕ) (t : List ℕ) → Contents opener closer t → Contents opener closer (92 ∷ c ∷ t)
  Nested : (s t : List ℕ) → Contents opener closer s → Contents opener closer t → Contents opener closer (opener ∷ s ++ closer ∷ t)

-- an opening octet, contents, and the closing octet; inner opens inside
pub record IsBracketed (first inner closer : ℕ) (t : List ℕ) : Type 0 where
  pub contents : List ℕ
  pub whole : t ≡ first ∷ contents ++ closer ∷ []
  pub inside : Contents inner closer contents

-- no octet opens a bracket in a quoted text
abbrev pub none : ℕ
none = 256

-- with its quotes
abbrev pub IsQuoted : List ℕ → Type 0
IsQuoted t = IsBracketed 34 none 34 t

-- with its parentheses
abbrev pub IsComment : List ℕ → Type 0
IsComment t = IsBracketed 40 40 41 t

abbrev pub IsKind : Alphabet → Kind → List ℕ → Type 0
IsKind a kind.Atom t = IsRun (is_letter a) t
IsKind a kind.Space t = IsRun is_white t
IsKind a kind.Quoted t = IsQuoted t
IsKind a kind.Literal t = IsBracketed 91 none 93 t
IsKind a kind.Comment t = IsComment t
IsKind a kind.Mark t = (c : ℕ) × (t ≡ c ∷ []) × (is_mark a c ≡ true)

-- atoms and spaces are as long as they can be
abbrev pub EndsBefore : Alphabet → Kind → List ℕ → Type 0
EndsBefore a kind.Atom t = Stops (is_letter a) t
EndsBefore a kind.Space t = Stops is_white t
EndsBefore a _ t = Unit {0}

-- the text begins with a token of the kind, and rest follows it
pub record BeginsWithToken (a : Alphabet) (k : Kind) (front rest t : List ℕ) : Type 0 where
  pub whole : t ≡ front ++ rest
  pub spelled : IsKind a k front
  pub ends : EndsBefore a k rest

-- a token's kind, and the octets that spell it
pub record Spelled : Type 0 where
  pub kind : Kind
  pub text : List ℕ

pub record IsToken (a : Alphabet) (v : Spelled) (front rest : List ℕ) : Type 0 where
  pub text_is : v.text ≡ front
  pub spelled : IsKind a v.kind front
  pub ends : EndsBefore a v.kind rest

-- the tokens of a text
abbrev pub AreTokens : Alphabet → List Spelled → List ℕ → Type 0
AreTokens a tokens t = Sequence (IsToken a) tokens t

-- no token begins the text
abbrev pub BeginsNone : Alphabet → List ℕ → Type 0
BeginsNone a t = (v : Spelled) (front rest : List ℕ) → t ≡ front ++ rest → IsToken a v front rest → ⊥

-- the tokens at the front of a text, up to the rest, which no token begins
abbrev pub AreLeading : Alphabet → List Spelled → List ℕ → List ℕ → Type 0
AreLeading a [] rest t = (t ≡ rest) × BeginsNone a t
AreLeading a (v ∷ vs) rest t = Starts (IsToken a) v (AreLeading a vs rest) t
