-- How many octets the symbols of a stack take, until they have ended.
use Rattle.std.specs.Prelude.{ℕ, ◌+◌, List, [], ◌∷◌, Option, Some, None}
use Rattle.imap_automaton.specs.declared.sym.Sym.{Sym}
use Rattle.imap_automaton.specs.Responses.{responses}
use Rattle.pushdown.specs.Run.{step, mark}

-- after an octet: none where the symbols ended before it, and one where they ended with it
abbrev pub beyond : Option (List Sym) → (List Sym → ℕ) → ℕ
beyond None more = 0
beyond (Some []) more = 1
beyond (Some (s ∷ ss)) more = more (s ∷ ss) + 1

unfoldable pub passed : List ℕ → List Sym → ℕ
passed [] ss = 0
passed (c ∷ b) ss = beyond (step responses ss (mark responses ss c)) (passed b)
