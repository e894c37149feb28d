-- Which symbols can stand on a stack, and what moves keep.
use Rattle.std.specs.Prelude.{◌≡◌, ℕ, ◌+◌, ◌≤◌, nat_le, Bool, true, false, not, ◌&&◌, ◌||◌, if◌then◌else◌, List, [], ◌∷◌, length}
use Rattle.pushdown.specs.declared.moves.Move.{Move}
use Rattle.pushdown.specs.declared.moves.Move.TheVariants as move
use Rattle.pushdown.specs.Automaton.{Automaton}

-- as many symbols as a stack holds
abbrev pub room : ℕ
room = 5

-- what follows the symbols begins with a stop, `last` for the end
abbrev pub first_begins : {S : Type 0} → Automaton S → Bool → List S → Bool
first_begins a last [] = last
first_begins a last (s ∷ ss) = a.begins s

-- symbols that can stand, `last` for whether the last of them may end open
abbrev pub Good : {S : Type 0} → Automaton S → Bool → List S → Type 0
Good a last [] = Unit {0}
Good a last (s ∷ ss) = (a.fits s ≡ true) × ((not (a.ends_open s) || first_begins a last ss) ≡ true) × Good a last ss

-- a move of a symbol that ends open or doesn't keeps the symbols good
abbrev pub move_good : {S : Type 0} → Automaton S → Bool → Move S → Bool
move_good a ends move.Fail = true
move_good a ends move.Yield = ends
move_good a ends move.End = true
move_good a ends (move.One p) = a.fits p && (not (a.ends_open p) || ends)
move_good a ends (move.Two p q) = a.fits p && a.fits q && (not (a.ends_open p) || a.begins q) && (not (a.ends_open q) || ends)

abbrev pub move_needs : {S : Type 0} → Automaton S → ℕ → Move S → Bool
move_needs a n (move.One p) = nat_le (a.need p) n
move_needs a n (move.Two p q) = nat_le (a.need p + 1) n && nat_le (a.need q) n
move_needs a n _ = true

-- the stack has room for the symbols to come
abbrev pub Room : {S : Type 0} → Automaton S → List S → Type 0
Room a [] = Unit {0}
Room a (s ∷ ss) = (a.need s + length ss ≤ room) × Room a ss

abbrev pub AllFit : {S : Type 0} → Automaton S → List S → Type 0
AllFit a [] = Unit {0}
AllFit a (s ∷ ss) = (a.fits s ≡ true) × AllFit a ss

abbrev pub Ready : {S : Type 0} → Automaton S → List S → Type 0
Ready a ss = Good a false ss × Room a ss

-- a step may be made
abbrev pub CanStep : {S : Type 0} → Automaton S → List S → Type 0
CanStep a ss = AllFit a ss × Room a ss

-- how many octets of literals are still to come
abbrev pub left_of : {S : Type 0} → Automaton S → List S → ℕ
left_of a [] = 0
left_of a (s ∷ ss) = a.left s + left_of a ss

-- the octet is taken
abbrev pub is_go : {S : Type 0} → Move S → Bool
is_go move.Fail = false
is_go move.Yield = false
is_go _ = true

abbrev pub pushed_left : {S : Type 0} → Automaton S → Move S → ℕ
pushed_left a (move.One p) = a.left p
pushed_left a (move.Two p q) = a.left p + a.left q
pushed_left a _ = 0

-- at a literal's octet one less is left, at another at most a literal more
abbrev pub Leaves : ℕ → Bool → ℕ → ℕ → Type 0
Leaves most inside old new = new + (if inside then 1 else 0) ≤ old + (if inside then 0 else most)
