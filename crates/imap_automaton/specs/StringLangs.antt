-- What each symbol of a string or a value still reads, in the words of the grammar.
use Rattle.std.specs.Prelude.{◌≡◌, ◌⊎◌, ℕ, zero, suc, ◌+◌, ◌-◌, ◌<◌, ◌≤◌, true, ◌||◌, List, [], ◌∷◌, ◌++◌, length}
use Rattle.std.specs.Prelude.{◌==◌}
use Rattle.imap_automaton.specs.declared.sym.Str.{Str}
use Rattle.imap_automaton.specs.declared.sym.Str.TheVariants as str
use Rattle.imap_automaton.specs.declared.sym.Value.{Value}
use Rattle.imap_automaton.specs.declared.sym.Value.TheVariants as value
use Rattle.imap_automaton.specs.Rests.{OctetsRest}
use Rattle.imap_types.specs.Octets.{is_digit, is_text, is_atom, is_inside}
use Rattle.imap_types.specs.Texts.{Each, Then}
use Rattle.imap_types.specs.Numbers.{value_from}
use Rattle.imap_types.specs.Lines.{joined, spaced}
use Rattle.imap_types.specs.Strings.{escaped, IsCounted, IsNString}
use Rattle.imap_types.specs.Values.{AllOf, IsFlat, IsValue}

-- ---- strings

abbrev pub QuotedRest : List ℕ → Type 0
QuotedRest t = (s : List ℕ) × Each is_text s × (t ≡ escaped s ++ 34 ∷ [])

abbrev pub EscapedRest : List ℕ → Type 0
EscapedRest t = (c : ℕ) × (rest : List ℕ) × (t ≡ c ∷ rest) × ((c == 34 || c == 92) ≡ true) × QuotedRest rest

abbrev pub AnyCounted : List ℕ → Type 0
AnyCounted t = (s : List ℕ) × IsCounted s t

-- the rest of a literal of whose count `digits` digits made `value`
pub record CountRest (value digits : ℕ) (t : List ℕ) : Type 0 where
  pub front : List ℕ
  pub octets : List ℕ
  pub whole : t ≡ front ++ 125 ∷ 13 ∷ 10 ∷ octets
  pub each : Each is_digit front
  pub some : 0 < digits + length front
  pub few : digits + length front ≤ 8
  pub counted : length octets ≡ value_from value front
  pub most : length octets ≤ 50000000
  pub inside : Each is_inside octets

abbrev pub BraceRest : ℕ → List ℕ → Type 0
BraceRest n t = (o : List ℕ) × (t ≡ 13 ∷ 10 ∷ o) × OctetsRest n o

abbrev pub StrLang : Str → List ℕ → Type 0
StrLang str.NString t = (s : List ℕ) × IsNString s t
StrLang str.AString t = IsFlat t
StrLang str.Quoted t = QuotedRest t
StrLang str.Escaped t = EscapedRest t
StrLang str.Tilde t = AnyCounted t
StrLang str.AtomTilde t = Each is_atom t ⊎ AnyCounted t
StrLang (str.Count v n) t = CountRest v n t
StrLang (str.Brace n) t = BraceRest n t

-- ---- values

-- values of at most n brackets and the closing one, from the first value on
abbrev pub ValuesFirst : ℕ → List ℕ → Type 0
ValuesFirst depth t = (vs : List (List ℕ)) × AllOf (IsValue depth) vs × (t ≡ joined vs ++ 41 ∷ [])

-- the same after a value
abbrev pub ValuesMore : ℕ → List ℕ → Type 0
ValuesMore depth t = (vs : List (List ℕ)) × AllOf (IsValue depth) vs × (t ≡ spaced vs ++ 41 ∷ [])

-- after a value, the rest of n brackets
abbrev pub Opened : ℕ → List ℕ → Type 0
Opened zero t = t ≡ []
Opened (suc within) t = Then (ValuesMore (63 - within)) (Opened within) t

abbrev pub ValueLang : Value → List ℕ → Type 0
ValueLang value.Start t = IsValue 64 t
ValueLang (value.First within) t = Then (ValuesFirst (63 - within)) (Opened within) t
ValueLang (value.Next within) t = Then (IsValue (63 - within)) (Opened (suc within)) t
ValueLang (value.More within) t = Opened (suc within) t
