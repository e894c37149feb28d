-- Parameters: each piece is one at most, and a value has one of each name.
use Rattle.std.proofs.Common.{◌≡◌, ◌≢◌, ℕ, ◌+◌, Bor, Bool, true, false, List, [], ◌∷◌, ◌++◌, length, refl, sym, ap, ◌∙◌, subst, Option, Some, None}
use Rattle.std.specs.List.{filter}
use Rattle.std.specs.Prelude.{MatchBool, MatchOption, IfOk, Result, Ok, Err}
use Rattle.std.specs.Option.{option_map}
use Rattle.text_words.specs.Octets.{is_same_text}
use Rattle.mail_header.specs.Lines.{unfolded}
use Rattle.header_tokens.specs.declared.token.Alphabet.TheVariants as alphabet
use Rattle.header_tokens.specs.declared.token.Kind.{Kind}
use Rattle.header_tokens.specs.declared.token.Kind.TheVariants as kind
use Rattle.header_tokens.specs.Tokens.{Spelled, AreTokens}
use Rattle.header_tokens.specs.Kinds.{has_mark, is_atom, is_atom_kind}
use Rattle.header_tokens.specs.Lexemes.{is_lexeme, AreLexemes, AreLeadingLexemes, BeginsAfter, BeginsWithLexeme}
use Rattle.header_tokens.specs.Words.{bracketed_text, unquoted}
use Rattle.header_tokens.proofs.LeadingLemmas.{one_token, one_tokens, one_leading_lexemes}
use Rattle.header_tokens.proofs.LexemeLemmas.{lexemes_are, row_lexemes, begins_reads, one_first}
use Rattle.mime_fields.specs.Pieces.{BeginsWithPiece}
use Rattle.mime_fields.specs.ContentTypes.{HasFrontLexemes, HasMedia, media_in}
use Rattle.mime_fields.specs.Dispositions.{HasKind, leading_token}
use Rattle.mime_fields.specs.Parameters.{is_quoted, is_quoted_kind, atom, quoted, octets_written, HasUnfolded, IsValue, QuotedValue, TokenValue, WrittenValue, IsParameter, IsOther, IsFirstNamed, NoPiece, Here, Later, HasParameter}
use Rattle.mime_fields.specs.reading.MimeLexemes.{mime_lexemes}
use Rattle.mime_fields.specs.reading.ParameterSteps.{IsNeither, HasName, IsNamed}
use Rattle.mime_fields.proofs.PieceLemmas.{one_piece}

-- ---- a first lexeme, and rows

-- two first lexemes of a text are one
pub first_same : (v w : Spelled) (x y t : List ℕ) → BeginsWithLexeme alphabet.Mime v x t → BeginsWithLexeme alphabet.Mime w y t → (v ≡ w) × (x ≡ y)
first_same v w x y t b c = one_first alphabet.Mime b.gaps c.gaps v w x y t b.begins c.begins b.is c.is

first_reads : (v : Spelled) (rest t : List ℕ) → BeginsWithLexeme alphabet.Mime v rest t → mime_lexemes t ≡ v ∷ mime_lexemes rest
first_reads v rest t b = begins_reads alphabet.Mime b.gaps v rest t b.begins b.is

row_reads : (ls : List Spelled) (t : List ℕ) → AreLexemes alphabet.Mime ls t → mime_lexemes t ≡ ls
row_reads ls t r =
    let q = row_lexemes alphabet.Mime t r.tokens r.are in
    q.lexemes_are ∙ ap (λ (us : List Spelled). filter is_lexeme us) (one_tokens alphabet.Mime q.tokens r.tokens t q.are r.are) ∙ sym r.lexemes_are

row_of : (gs : List Spelled) (v : Spelled) (ts : List Spelled) (rest t : List ℕ) → BeginsAfter alphabet.Mime gs v rest t → AreTokens alphabet.Mime ts rest
    → AreTokens alphabet.Mime (gs ++ v ∷ ts) t
row_of [] v ts rest t b r =
    let P : List ℕ → Type 0 = λ u. AreTokens alphabet.Mime ts u in
    record { unit = b.unit; rest = b.rest; whole = b.whole; is = b.is; more = subst P (sym b.more) r }
row_of (g ∷ gs) v ts rest t b r = record { unit = b.1.unit; rest = b.1.rest; whole = b.1.whole; is = b.1.is; more = row_of gs v ts rest b.1.rest b.1.more r }

empty_front : (x s : List ℕ) → x ++ s ≡ [] → x ≡ []
empty_front [] s e = refl
empty_front (c ∷ x) s e = absurd cc

row_behind : (gs us : List Spelled) (v : Spelled) (rest t : List ℕ) → BeginsAfter alphabet.Mime gs v rest t → AreTokens alphabet.Mime us t
    → (ts : List Spelled) × AreTokens alphabet.Mime ts rest
row_behind [] [] v rest t b r = absurd ((one_token alphabet.Mime).some v b.unit b.rest b.is (empty_front b.unit b.rest (sym b.whole ∙ r)))
row_behind [] (u ∷ us) v rest t b r =
    let s = (one_token alphabet.Mime).one v u b.unit r.unit b.rest r.rest (sym b.whole ∙ r.whole) b.is r.is in
    let P : List ℕ → Type 0 = λ x. AreTokens alphabet.Mime us x in
    (us, subst P (sym s.rest ∙ b.more) r.more)
row_behind (g ∷ gs) [] v rest t b r = absurd ((one_token alphabet.Mime).some g b.1.unit b.1.rest b.1.is (empty_front b.1.unit b.1.rest (sym b.1.whole ∙ r)))
row_behind (g ∷ gs) (u ∷ us) v rest t b r =
    let s = (one_token alphabet.Mime).one g u b.1.unit r.unit b.1.rest r.rest (sym b.1.whole ∙ r.whole) b.1.is r.is in
    let P : List ℕ → Type 0 = λ x. AreTokens alphabet.Mime us x in
    row_behind gs us v rest b.1.rest b.1.more (subst P (sym s.rest) r.more)

-- a lexeme with white space and comments behind it alone is a row
alone : (v : Spelled) (rest t : List ℕ) → BeginsWithLexeme alphabet.Mime v rest t → AreLexemes alphabet.Mime [] rest → AreLexemes alphabet.Mime (v ∷ []) t
alone v rest t b r =
    let P : List Spelled → Type 0 = λ ls. AreLexemes alphabet.Mime ls t in
    subst P (first_reads v rest t b ∙ ap (λ (u : List Spelled). v ∷ u) (row_reads [] rest r))
    (row_lexemes alphabet.Mime t (b.gaps ++ v ∷ r.tokens) (row_of b.gaps v r.tokens rest t b.begins r.are))

-- and where there is more behind it, it is none
not_alone : (v w : Spelled) (rest t : List ℕ) → BeginsWithLexeme alphabet.Mime v rest t → AreLexemes alphabet.Mime (w ∷ []) t → (v ≡ w) × AreLexemes alphabet.Mime [] rest
not_alone v w rest t b r =
    let e = sym (first_reads v rest t b) ∙ row_reads (w ∷ []) t r in
    let q = row_behind b.gaps r.tokens v rest t b.begins r.are in
    let n : mime_lexemes rest ≡ [] = cc in
    let P : List Spelled → Type 0 = λ ls. AreLexemes alphabet.Mime ls rest in
    (cc, subst P n (row_lexemes alphabet.Mime rest q.0 q.1))

-- ---- gaps

-- where a lexeme comes, the text isn't white space and comments
pub some_lexeme : (v : Spelled) (rest t : List ℕ) → BeginsWithLexeme alphabet.Mime v rest t → AreLexemes alphabet.Mime [] t → ⊥
some_lexeme v rest t b r = let e = sym (first_reads v rest t b) ∙ row_reads [] t r in absurd cc

-- where none comes, a row is so
pub gaps_told : (t : List ℕ) (b : Bool) → mime_lexemes t ≡ []
    → MatchBool b ((ts : List Spelled) × AreTokens alphabet.Mime ts t) ((ts : List Spelled) → AreTokens alphabet.Mime ts t → ⊥)
    → MatchBool b (AreLexemes alphabet.Mime [] t) (AreLexemes alphabet.Mime [] t → ⊥)
gaps_told t true e h = let P : List Spelled → Type 0 = λ ls. AreLexemes alphabet.Mime ls t in subst P e (row_lexemes alphabet.Mime t h.0 h.1)
gaps_told t false e h = λ r. h r.tokens r.are

-- ---- the form of a value

-- a lexeme whose kind is told is so
pub quoted_is : (v : Spelled) → is_quoted v ≡ true → v ≡ quoted v.text
quoted_is v e = by v.kind e refl
  where
    by : (k : Kind) → is_quoted_kind k ≡ true → v.kind ≡ k → v ≡ quoted v.text
    by kind.Quoted h f = ap (λ (x : Kind). spelled x v.text) f
      where
        spelled : Kind → List ℕ → Spelled
        spelled x t = record { kind = x; text = t }
    by kind.Atom h f = absurd cc
    by kind.Space h f = absurd cc
    by kind.Literal h f = absurd cc
    by kind.Comment h f = absurd cc
    by kind.Mark h f = absurd cc

-- an atom is the atom of its octets
pub atom_is : (v : Spelled) → is_atom v ≡ true → v ≡ atom v.text
atom_is v e = by v.kind e refl
  where
    by : (k : Kind) → is_atom_kind k ≡ true → v.kind ≡ k → v ≡ atom v.text
    by kind.Atom h f = ap (λ (x : Kind). spelled x v.text) f
      where
        spelled : Kind → List ℕ → Spelled
        spelled x t = record { kind = x; text = t }
    by kind.Quoted h f = absurd cc
    by kind.Space h f = absurd cc
    by kind.Literal h f = absurd cc
    by kind.Comment h f = absurd cc
    by kind.Mark h f = absurd cc

-- a quoted text that comes first is the value
pub form_quoted : (v : Spelled) (rest raw : List ℕ) → BeginsWithLexeme alphabet.Mime v rest raw → is_quoted v ≡ true
    → (rest : List ℕ) × BeginsWithLexeme alphabet.Mime (quoted v.text) rest raw
form_quoted v rest raw b e = let P : Spelled → Type 0 = λ u. BeginsWithLexeme alphabet.Mime u rest raw in (rest, subst P (quoted_is v e) b)

-- an atom behind which white space and comments alone come is it
pub form_token : (v : Spelled) (rest raw : List ℕ) → BeginsWithLexeme alphabet.Mime v rest raw → is_atom v ≡ true → AreLexemes alphabet.Mime [] rest
    → AreLexemes alphabet.Mime (atom v.text ∷ []) raw
form_token v rest raw b e g = let P : Spelled → Type 0 = λ u. AreLexemes alphabet.Mime (u ∷ []) raw in subst P (atom_is v e) (alone v rest raw b g)

-- where no lexeme comes, there is neither
pub neither_none : (raw : List ℕ) → ((v : Spelled) (rest : List ℕ) → BeginsWithLexeme alphabet.Mime v rest raw → ⊥) → mime_lexemes raw ≡ [] → IsNeither raw
neither_none raw n e = record {
  no_quoted = λ x rest b. n (quoted x) rest b;
  no_token = λ x r. let q = sym e ∙ row_reads (atom x ∷ []) raw r in absurd cc;
}

no_quoted_first : (v : Spelled) (rest raw : List ℕ) → BeginsWithLexeme alphabet.Mime v rest raw → is_quoted v ≡ false
    → (x rest : List ℕ) → BeginsWithLexeme alphabet.Mime (quoted x) rest raw → ⊥
no_quoted_first v rest raw b e = λ x r c. let q = sym e ∙ ap is_quoted (first_same v (quoted x) rest r raw b c).0 in absurd cc

-- where the first lexeme is neither
pub neither_kind : (v : Spelled) (rest raw : List ℕ) → BeginsWithLexeme alphabet.Mime v rest raw → is_quoted v ≡ false → is_atom v ≡ false → IsNeither raw
neither_kind v rest raw b e f = record {
  no_quoted = no_quoted_first v rest raw b e;
  no_token = λ x r. let q = sym f ∙ ap is_atom (not_alone v (atom x) rest raw b r).0 in absurd cc;
}

-- where more comes behind the first lexeme
pub neither_alone : (v : Spelled) (rest raw : List ℕ) → BeginsWithLexeme alphabet.Mime v rest raw → is_quoted v ≡ false → (AreLexemes alphabet.Mime [] rest → ⊥) → IsNeither raw
neither_alone v rest raw b e n = record {
  no_quoted = no_quoted_first v rest raw b e;
  no_token = λ x r. n (not_alone v (atom x) rest raw b r).1;
}

-- where neither stands there and nothing is written, there is no value
pub no_value : (raw : List ℕ) → IsNeither raw → octets_written raw ≡ [] → (x : List ℕ) → IsValue x raw → ⊥
no_value raw n e _ (QuotedValue x rest _ b m) = n.no_quoted x rest b
no_value raw n e _ (TokenValue x _ r) = n.no_token x r
no_value raw n e _ (WrittenValue _ f g h) = h e

-- and else it is what is written
pub written_value : (raw b : List ℕ) → IsNeither raw → b ≡ octets_written raw → octets_written raw ≢ [] → IsValue b raw
written_value raw b n e h = let P : List ℕ → Type 0 = λ x. IsValue x raw in subst P (sym e) (WrittenValue raw n.no_quoted n.no_token h)

-- ---- one value

quoted_no_token : (x rest y raw : List ℕ) → BeginsWithLexeme alphabet.Mime (quoted x) rest raw → AreLexemes alphabet.Mime (atom y ∷ []) raw → ⊥
quoted_no_token x rest y raw b r = let q = ap is_atom (not_alone (quoted x) (atom y) rest raw b r).0 in absurd cc

from_quoted : (x rest raw y : List ℕ) → BeginsWithLexeme alphabet.Mime (quoted x) rest raw → IsValue y raw → bracketed_text x ≡ y
from_quoted x rest raw _ b (QuotedValue y r _ c n) = let q = (first_same (quoted x) (quoted y) rest r raw b c).0 in ap (λ (v : Spelled). bracketed_text v.text) q
from_quoted x rest raw _ b (TokenValue y _ r) = absurd (quoted_no_token x rest y raw b r)
from_quoted x rest raw _ b (WrittenValue _ f g h) = absurd (f x rest b)

from_token : (x raw y : List ℕ) → AreLexemes alphabet.Mime (atom x ∷ []) raw → IsValue y raw → x ≡ y
from_token x raw _ r (QuotedValue y rest _ c n) = absurd (quoted_no_token y rest x raw c r)
from_token x raw _ r (TokenValue y _ q) = let e = sym (row_reads (atom x ∷ []) raw r) ∙ row_reads (atom y ∷ []) raw q in let f : atom x ≡ atom y = cc in ap (λ (v : Spelled). v.text) f
from_token x raw _ r (WrittenValue _ f g h) = absurd (g x r)

from_written : (raw y : List ℕ) → ((x rest : List ℕ) → BeginsWithLexeme alphabet.Mime (quoted x) rest raw → ⊥) → ((x : List ℕ) → AreLexemes alphabet.Mime (atom x ∷ []) raw → ⊥)
    → IsValue y raw → octets_written raw ≡ y
from_written raw _ f g (QuotedValue y rest _ c n) = absurd (f y rest c)
from_written raw _ f g (TokenValue y _ r) = absurd (g y r)
from_written raw _ f g (WrittenValue _ k l h) = refl

-- a quoted text without an octet beside line ends is no value
pub no_quoted : (x raw : List ℕ) → (rest : List ℕ) × BeginsWithLexeme alphabet.Mime (quoted x) rest raw → unquoted x ≡ [] → (y : List ℕ) → IsValue y raw → ⊥
no_quoted x raw h e _ (QuotedValue y r _ c n) = n (sym (ap (λ (v : Spelled). unquoted v.text) (first_same (quoted x) (quoted y) h.0 r raw h.1 c).0) ∙ e)
no_quoted x raw h e _ (TokenValue y _ r) = quoted_no_token x h.0 y raw h.1 r
no_quoted x raw h e _ (WrittenValue _ f g k) = f x h.0 h.1

-- octets are one value at most
pub one_value : (raw x y : List ℕ) → IsValue x raw → IsValue y raw → x ≡ y
one_value raw _ y (QuotedValue x rest _ b n) v = from_quoted x rest raw y b v
one_value raw _ y (TokenValue x _ r) v = from_token x raw y r v
one_value raw _ y (WrittenValue _ f g h) v = from_written raw y f g v

-- ---- one parameter

-- a piece has one name, and one text behind it
pub one_name : (n m x y piece : List ℕ) → HasName n x piece → HasName m y piece → (n ≡ m) × (x ≡ y)
one_name n m x y piece g h =
    let a = first_same (atom n) (atom m) g.behind_name h.behind_name piece g.name_is h.name_is in
    let P : List ℕ → Type 0 = λ u. BeginsWithLexeme alphabet.Mime h.equals y u in
    (ap (λ (v : Spelled). v.text) a.0, (first_same g.equals h.equals x y g.behind_name g.equals_is (subst P (sym a.1) h.equals_is)).1)

-- the name of a parameter
pub name_of : (n v piece : List ℕ) (p : IsParameter n v piece) → HasName n p.raw piece
name_of n v piece p = record { behind_name = p.behind_name; equals = p.equals; name_is = p.name_is; equals_is = p.equals_is; is_equals = p.is_equals }

one_parameter : (n m v w piece : List ℕ) → IsParameter n v piece → IsParameter m w piece → (n ≡ m) × (v ≡ w)
one_parameter n m v w piece g h =
    let a = one_name n m g.raw h.raw piece (name_of n v piece g) (name_of m w piece h) in
    let P : List ℕ → Type 0 = λ u. IsValue w u in
    (a.0, one_value g.raw v w g.value_is (subst P (sym a.1) h.value_is))

-- a piece without a name is another
pub other_nameless : (name piece : List ℕ) → ((n raw : List ℕ) → HasName n raw piece → ⊥) → IsOther name piece
other_nameless name piece h = λ n v p. absurd (h n p.raw (name_of n v piece p))

-- so is one of another name
pub other_named : (name piece n raw : List ℕ) → HasName n raw piece → is_same_text n name ≡ false → IsOther name piece
other_named name piece n raw h e = λ m v p.
    let a = one_name n m raw p.raw piece h (name_of m v piece p) in
    ap (λ (u : List ℕ). is_same_text u name) (sym a.0) ∙ e

-- and one without a value
pub other_valueless : (name piece n raw : List ℕ) → HasName n raw piece → ((x : List ℕ) → IsValue x raw → ⊥) → IsOther name piece
other_valueless name piece n raw h none = λ m v p.
    let a = one_name n m raw p.raw piece h (name_of m v piece p) in
    let P : List ℕ → Type 0 = λ u. IsValue v u in
    absurd (none v (subst P (sym a.1) p.value_is))

-- a name and a value are a parameter
pub named_value : (name piece n raw v : List ℕ) → HasName n raw piece → is_same_text n name ≡ true → IsValue v raw → IsNamed name v piece
named_value name piece n raw v h e i = record {
  written = n;
  is = record { behind_name = h.behind_name; equals = h.equals; raw = raw; name_is = h.name_is; equals_is = h.equals_is; is_equals = h.is_equals; value_is = i };
  same = e;
}

-- ---- pieces without a name

-- no name comes first
pub no_atom : (v : Spelled) (rest piece : List ℕ) → BeginsWithLexeme alphabet.Mime v rest piece → is_atom v ≡ false → (n raw : List ℕ) → HasName n raw piece → ⊥
no_atom v rest piece b e n raw h = let q = sym e ∙ ap is_atom (first_same v (atom n) rest h.behind_name piece b h.name_is).0 in absurd cc

-- nothing comes behind what comes first
pub no_second : (v : Spelled) (rest piece : List ℕ) → BeginsWithLexeme alphabet.Mime v rest piece
    → ((w : Spelled) (r : List ℕ) → BeginsWithLexeme alphabet.Mime w r rest → ⊥) → (n raw : List ℕ) → HasName n raw piece → ⊥
no_second v rest piece b none n raw h =
    let q = (first_same v (atom n) rest h.behind_name piece b h.name_is).1 in
    let P : List ℕ → Type 0 = λ u. BeginsWithLexeme alphabet.Mime h.equals raw u in
    none h.equals raw (subst P (sym q) h.equals_is)

-- no "=" comes behind it
pub no_mark : (v w : Spelled) (rest more piece : List ℕ) → BeginsWithLexeme alphabet.Mime v rest piece → BeginsWithLexeme alphabet.Mime w more rest → has_mark 61 w ≡ false
    → (n raw : List ℕ) → HasName n raw piece → ⊥
no_mark v w rest more piece b c e n raw h =
    let q = (first_same v (atom n) rest h.behind_name piece b h.name_is).1 in
    let P : List ℕ → Type 0 = λ u. BeginsWithLexeme alphabet.Mime h.equals raw u in
    let s = (first_same w h.equals more raw rest c (subst P (sym q) h.equals_is)).0 in
    let f = sym e ∙ ap (has_mark 61) s ∙ h.is_equals in
    absurd cc

-- a name, "=", and what follows
pub has_name : (v w : Spelled) (rest raw piece : List ℕ) → BeginsWithLexeme alphabet.Mime v rest piece → BeginsWithLexeme alphabet.Mime w raw rest → is_atom v ≡ true
    → has_mark 61 w ≡ true → HasName v.text raw piece
has_name v w rest raw piece b c e f =
    let P : Spelled → Type 0 = λ u. BeginsWithLexeme alphabet.Mime u rest piece in
    record { behind_name = rest; equals = w; name_is = subst P (atom_is v e) b; equals_is = c; is_equals = f }

-- ---- the first parameter of a name

one_here : (name t piece n v : List ℕ) (rest y : Option (List ℕ)) → BeginsWithPiece piece rest t → IsParameter n v piece → is_same_text n name ≡ true
    → IsFirstNamed name (Some t) y → Some v ≡ y
one_here name t piece n v rest _ b p e (Here _ piece' n' v' rest' b' p' e') =
    let P : List ℕ → Type 0 = λ u. IsParameter n' v' u in
    let q = (one_piece piece piece' rest rest' t b b').0 in
    ap (λ (u : List ℕ). Some u) (one_parameter n n' v v' piece p (subst P (sym q) p')).1
one_here name t piece n v rest y b p e (Later _ piece' rest' _ b' o m) =
    let P : List ℕ → Type 0 = λ u. IsOther name u in
    let q = (one_piece piece piece' rest rest' t b b').0 in
    let f = subst P (sym q) o n v p in
    absurd cc

one_later : (name t piece : List ℕ) (rest x y : Option (List ℕ)) → BeginsWithPiece piece rest t → IsOther name piece
    → ((z : Option (List ℕ)) → IsFirstNamed name rest z → x ≡ z) → IsFirstNamed name (Some t) y → x ≡ y
one_later name t piece rest x _ b o more (Here _ piece' n' v' rest' b' p' e') =
    let P : List ℕ → Type 0 = λ u. IsOther name u in
    let q = (one_piece piece piece' rest rest' t b b').0 in
    let f = subst P q o n' v' p' in
    absurd cc
one_later name t piece rest x y b o more (Later _ piece' rest' _ b' o' m) =
    let P : Option (List ℕ) → Type 0 = λ u. IsFirstNamed name u y in
    more y (subst P (sym (one_piece piece piece' rest rest' t b b').1) m)

-- of a name there is one first parameter, or none
pub one_named : (name : List ℕ) (rest x y : Option (List ℕ)) → IsFirstNamed name rest x → IsFirstNamed name rest y → x ≡ y
one_named name _ _ y NoPiece h = nothing y h
  where
    nothing : (y : Option (List ℕ)) → IsFirstNamed name None y → None ≡ y
    nothing _ NoPiece = refl
one_named name _ _ y (Here t piece n v rest b p e) h = one_here name t piece n v rest y b p e h
one_named name _ x y (Later t piece rest _ b o m) h = one_later name t piece rest x y b o (λ z g. one_named name rest x z m g) h

-- octets have one value of a parameter, or none
pub one_has : (name t : List ℕ) (x y : Option (List ℕ)) → HasParameter name t x → HasParameter name t y → x ≡ y
one_has name t x y g h =
    let P : Option (List ℕ) → Type 0 = λ u. IsFirstNamed name u y in
    one_named name g.rest x y g.is (subst P (sym (one_piece g.first h.first g.rest h.rest t g.begins h.begins).1) h.is)

-- and one without line ends
pub one_unfolded : (name t : List ℕ) (x y : Option (List ℕ)) → HasUnfolded name t x → HasUnfolded name t y → x ≡ y
one_unfolded name t x y g h = g.value_is ∙ ap (option_map unfolded) (one_has name t g.octets h.octets g.has h.has) ∙ sym h.value_is

one_front : (x y : List Spelled) (t : List ℕ) → HasFrontLexemes x t → HasFrontLexemes y t → x ≡ y
one_front x y t g h =
    let e = (one_piece g.first h.first g.rest h.rest t g.begins h.begins).0 in
    let P : List ℕ → Type 0 = λ u. AreLeadingLexemes alphabet.Mime y u in
    one_leading_lexemes alphabet.Mime x y g.first g.are (subst P (sym e) h.are)

-- octets have one media type, or none
pub one_media : (t : List ℕ) (x y : Option (List ℕ)) → HasMedia t x → HasMedia t y → x ≡ y
one_media t x y g h = g.2 ∙ ap media_in (one_front g.0 h.0 t g.1 h.1) ∙ sym h.2

-- and one kind of disposition, or none
pub one_kind : (t : List ℕ) (x y : Option (List ℕ)) → HasKind t x → HasKind t y → x ≡ y
one_kind t x y g h = g.2 ∙ ap leading_token (one_front g.0 h.0 t g.1 h.1) ∙ sym h.2

-- ---- the walk

-- a parameter that is found is the first
pub found_here : (name t piece value : List ℕ) (rest : Option (List ℕ)) → BeginsWithPiece piece rest t → IsNamed name value piece → IsFirstNamed name (Some t) (Some value)
found_here name t piece value rest b i = Here t piece i.written value rest b i.is i.same

-- the first parameter of the name among what follows a semicolon
abbrev pub NamedIn : List ℕ → Option (Bor (List ℕ)) → Option (List ℕ) → Type 0
NamedIn name rest v = MatchOption rest (IsFirstNamed name None v) (λ (t : Bor (List ℕ)). IsFirstNamed name (Some t.now) v)

-- that of what is left is the first of the whole
abbrev pub FirstSoFar : List ℕ → Option (Bor (List ℕ)) → Option (Bor (List ℕ)) → Type 0
FirstSoFar name rest whole = (v : Option (List ℕ)) → NamedIn name rest v → NamedIn name whole v

-- past a piece that is another
pub first_behind : (name piece : List ℕ) (t : Bor (List ℕ)) (more whole : Option (Bor (List ℕ))) → FirstSoFar name (Some t) whole
    → MatchOption more (BeginsWithPiece piece None t.now) (λ (r : Bor (List ℕ)). BeginsWithPiece piece (Some r.now) t.now) → IsOther name piece → FirstSoFar name more whole
first_behind name piece t None whole h b o = λ v g. h v (Later t.now piece None v b o g)
first_behind name piece t (Some r) whole h b o = λ v g. h v (Later t.now piece (Some r.now) v b o g)

-- at a piece that is it
pub first_at : (name piece value : List ℕ) (t : Bor (List ℕ)) (more whole : Option (Bor (List ℕ))) → FirstSoFar name (Some t) whole
    → MatchOption more (BeginsWithPiece piece None t.now) (λ (r : Bor (List ℕ)). BeginsWithPiece piece (Some r.now) t.now) → IsNamed name value piece
    → NamedIn name whole (Some value)
first_at name piece value t None whole h b i = h (Some value) (found_here name t.now piece value None b i)
first_at name piece value t (Some r) whole h b i = h (Some value) (found_here name t.now piece value (Some r.now) b i)

-- how long what is left is
abbrev pub left_len : Option (Bor (List ℕ)) → ℕ
left_len None = 0
left_len (Some t) = length t.now + 1

-- ---- results

-- what a value is told to be, a parameter is
pub if_match : {X E P P' : Type 0} {Q Q' : X → Type 0} (r : Result (Option X) E) → (P → P') → ((x : X) → Q x → Q' x)
    → IfOk r (λ (v : Option X). MatchOption v P Q) → IfOk r (λ (v : Option X). MatchOption v P' Q')
if_match (Ok None) f g h = f h
if_match (Ok (Some x)) f g h = g x h
if_match (Err e) f g h = tt

-- a quoted text spells its value
pub quoted_value : (x b raw : List ℕ) → (rest : List ℕ) × BeginsWithLexeme alphabet.Mime (quoted x) rest raw → b ≡ bracketed_text x → unquoted x ≢ [] → IsValue b raw
quoted_value x b raw h e n = let P : List ℕ → Type 0 = λ u. IsValue u raw in subst P (sym e) (QuotedValue x h.0 raw h.1 n)

-- a token is it
pub token_value : (x b raw : List ℕ) → AreLexemes alphabet.Mime (atom x ∷ []) raw → b ≡ x → IsValue b raw
token_value x b raw h e = let P : List ℕ → Type 0 = λ u. IsValue u raw in subst P (sym e) (TokenValue x raw h)

-- ---- fields

-- the first parameter behind the first piece is the field's
pub has_parameter : (name t first : List ℕ) (more : Option (Bor (List ℕ))) (v : Option (List ℕ))
    → MatchOption more (BeginsWithPiece first None t) (λ (r : Bor (List ℕ)). BeginsWithPiece first (Some r.now) t) → NamedIn name more v → HasParameter name t v
has_parameter name t first None v b n = record { first = first; rest = None; begins = b; is = n }
has_parameter name t first (Some r) v b n = record { first = first; rest = Some r.now; begins = b; is = n }

-- the lexemes of the first piece are the field's
pub has_front : (t first : List ℕ) (more : Option (Bor (List ℕ)))
    → MatchOption more (BeginsWithPiece first None t) (λ (r : Bor (List ℕ)). BeginsWithPiece first (Some r.now) t) → HasFrontLexemes (mime_lexemes first) t
has_front t first None b = record { first = first; rest = None; begins = b; are = lexemes_are alphabet.Mime first }
has_front t first (Some r) b = record { first = first; rest = Some r.now; begins = b; are = lexemes_are alphabet.Mime first }
