-- What texts do to the symbols of a stack.
use Rattle.std.specs.Prelude.{◌≡◌, ℕ, ◌+◌, ◌-◌, Bool, false, nat_lt, if◌then◌else◌, List, [], ◌∷◌, Option, Some, None}
use Rattle.pushdown.specs.declared.moves.Move.{Move}
use Rattle.pushdown.specs.declared.moves.Move.TheVariants as move
use Rattle.pushdown.specs.Automaton.{Automaton}

-- the symbols that a move leaves on the others, where other is what they do by themselves
abbrev pub moved : {S : Type 0} → Move S → List S → Option (List S) → Option (List S)
moved move.Fail ss other = None
moved move.Yield ss other = other
moved move.End ss other = Some ss
moved (move.One a) ss other = Some (a ∷ ss)
moved (move.Two a b) ss other = Some (a ∷ b ∷ ss)

abbrev pub step : {S : Type 0} → Automaton S → List S → ℕ → Option (List S)
step a [] c = None
step a (s ∷ ss) c = moved (a.rule_of s c) ss (step a ss c)

abbrev pub stepped : {S : Type 0} → Automaton S → Option (List S) → ℕ → Option (List S)
stepped a None c = None
stepped a (Some ss) c = step a ss c

abbrev pub run : {S : Type 0} → Automaton S → Option (List S) → List ℕ → Option (List S)
run a state [] = state
run a state (c ∷ t) = run a (stepped a state c) t

-- after the octets the symbol is the other one, whatever symbols follow it
abbrev pub LeadsTo : {S : Type 0} → Automaton S → S → List ℕ → S → Type 0
LeadsTo {S = S} a s t p = (ss : List S) → run a (Some (s ∷ ss)) t ≡ Some (p ∷ ss)

abbrev pub start : {S : Type 0} → Automaton S → List S
start a = a.start ∷ []

-- the symbol is within a literal
abbrev pub inside : {S : Type 0} → Automaton S → S → Bool
inside a s = nat_lt 0 (a.left s)

-- the first symbol is
abbrev pub inside_top : {S : Type 0} → Automaton S → List S → Bool
inside_top a [] = false
inside_top a (s ∷ ss) = inside a s

-- an octet as it stands in a text, by the first symbol
abbrev pub mark : {S : Type 0} → Automaton S → List S → ℕ → ℕ
mark a ss c = if inside_top a ss then c + 256 else c

-- what an octet counts
abbrev pub cost : {S : Type 0} → Automaton S → List S → ℕ
cost a ss = if inside_top a ss then 0 else 1

-- how many octets of the literal at hand are still to come
abbrev pub inside_left : {S : Type 0} → Automaton S → List S → ℕ
inside_left a [] = 0
inside_left a (s ∷ ss) = a.left s

-- n octets of the literal at hand are taken, and not its last
abbrev pub skipped : {S : Type 0} → Automaton S → ℕ → List S → List S
skipped a k [] = []
skipped a k (s ∷ ss) = a.with_left s (a.left s - k) ∷ ss
