-- What quoted texts and words spell (RFC 5322 section 3.2.4).
use Rattle.std.specs.Prelude.{ℕ, ◌-◌, Bool, true, false, ◌==◌, if◌then◌else◌, List, [], ◌∷◌, length, take}
use Rattle.header_tokens.specs.declared.token.Kind.{Kind}
use Rattle.header_tokens.specs.declared.token.Kind.TheVariants as kind
use Rattle.mail_header.specs.Lines.{unfolded}

-- what stands between the first octet and the last
abbrev pub inside : List ℕ → List ℕ
inside [] = []
inside (c ∷ t) = take (length t - 1) t

-- a backslash gives way to the octet after it; `escaped` says that one stands directly before
abbrev pub unescaped : Bool → List ℕ → List ℕ
unescaped escaped [] = []
unescaped true (c ∷ t) = c ∷ unescaped false t
unescaped false (c ∷ t) = if c == 92 then unescaped true t else c ∷ unescaped false t

-- what a quoted text or a comment has, with its line ends
abbrev pub bracketed_text : List ℕ → List ℕ
bracketed_text t = unescaped false (inside t)

-- what a quoted text or a comment has, without line ends
abbrev pub unquoted : List ℕ → List ℕ
unquoted t = unfolded (bracketed_text t)

abbrev pub word_text : Kind → List ℕ → List ℕ
word_text kind.Quoted t = unquoted t
word_text _ t = t
