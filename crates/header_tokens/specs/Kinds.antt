-- What a token is: a mark, white space or a comment, an atom, a word.
use Rattle.std.specs.Prelude.{ℕ, Bool, true, false, not, ◌==◌, List, [], ◌∷◌}
use Rattle.header_tokens.specs.declared.token.Kind.{Kind}
use Rattle.header_tokens.specs.declared.token.Kind.TheVariants as kind
use Rattle.header_tokens.specs.Tokens.{Spelled}
use Rattle.header_tokens.specs.Lexemes.{is_lexeme_kind}

abbrev pub first_octet : List ℕ → ℕ
first_octet [] = 0
first_octet (c ∷ t) = c

abbrev pub mark_in : Kind → List ℕ → ℕ
mark_in kind.Mark t = first_octet t
mark_in _ t = 0

-- the octet of a mark; 0 for any other token
abbrev pub mark_of : Spelled → ℕ
mark_of s = mark_in s.kind s.text

abbrev pub has_mark : ℕ → Spelled → Bool
has_mark c s = mark_of s == c

-- white space or a comment
abbrev pub is_gap : Spelled → Bool
is_gap s = not (is_lexeme_kind s.kind)

abbrev pub is_atom_kind : Kind → Bool
is_atom_kind kind.Atom = true
is_atom_kind _ = false

abbrev pub is_atom : Spelled → Bool
is_atom s = is_atom_kind s.kind

abbrev pub is_word_kind : Kind → Bool
is_word_kind kind.Atom = true
is_word_kind kind.Quoted = true
is_word_kind _ = false

-- word = atom / quoted-string
abbrev pub is_word : Spelled → Bool
is_word s = is_word_kind s.kind
