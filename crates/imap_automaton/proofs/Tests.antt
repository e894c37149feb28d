-- Moves by tests.
use Rattle.std.proofs.Common.{◌≡◌, ℕ, ◌+◌, Bool, true, false, List, [], ◌∷◌, ◌++◌, cond, refl, ap, ◌∙◌}
use Rattle.std.specs.Prelude.{◌==◌}
use Rattle.std.proofs.lemmas.Bool.{eqb-false}
use Rattle.imap_automaton.specs.declared.sym.Sym.{Sym}
use Rattle.pushdown.specs.declared.moves.Move.{Move}
use Rattle.imap_types.specs.Texts.{crlf}
use Rattle.imap_automaton.specs.Langs.{AfterMove}
use Rattle.pushdown.proofs.Lists.{cons_head}

-- what is still read after the move that a test chose
pub from_test : (b : Bool) (m n : Move Sym) (t : List ℕ) (P : Type 0) → (b ≡ true → AfterMove m t → P) → (b ≡ false → AfterMove n t → P) → AfterMove (cond b m n) t → P
from_test true m n t P f g h = f refl h
from_test false m n t P f g h = g refl h

-- a text is still read after the move that a test chooses if it is after each of the two where it is chosen
pub to_test : (b : Bool) (m n : Move Sym) (t : List ℕ) → (b ≡ true → AfterMove m t) → (b ≡ false → AfterMove n t) → AfterMove (cond b m n) t
to_test true m n t f g = f refl
to_test false m n t f g = g refl

-- where the test holds, a text that is still read after the first move is still read after the chosen one
pub at_true : (b : Bool) (m n : Move Sym) (t : List ℕ) → b ≡ true → AfterMove m t → AfterMove (cond b m n) t
at_true true m n t e h = h
at_true false m n t e h = absurd cc

-- where the test fails, a text that is still read after the second move is still read after the chosen one
pub at_false : (b : Bool) (m n : Move Sym) (t : List ℕ) → b ≡ false → AfterMove n t → AfterMove (cond b m n) t
at_false true m n t e h = absurd cc
at_false false m n t e h = h

-- no boolean is both true and false
pub both : {P : Type 0} (b : Bool) → b ≡ true → b ≡ false → P
both true e f = absurd cc
both false e f = absurd cc

-- a test that holds of an octet holds of one equal to it
pub is_true_at : (p : ℕ → Bool) (c d : ℕ) → c ≡ d → p d ≡ true → p c ≡ true
is_true_at p c d e h = ap p e ∙ h

-- ---- texts

-- texts that begin differently
pub apart : (c d : ℕ) (x y : List ℕ) → (c == d) ≡ false → c ∷ x ≡ d ∷ y → ⊥
apart c d x y ne e = eqb-false c d ne (cons_head c d x y e)

-- the end of a line
pub crlf_of : (c : ℕ) (t : List ℕ) → c ≡ 13 → t ≡ 10 ∷ [] → c ∷ t ≡ crlf
crlf_of c t e f = cc

-- where an octet and a text are CR LF, the octet is CR and the text is LF
pub crlf_parts : (c : ℕ) (t : List ℕ) → c ∷ t ≡ crlf → (c ≡ 13) × (t ≡ 10 ∷ [])
crlf_parts c t e = (cc, cc)

-- an octet in the middle is one
pub mid : (x y : List ℕ) (c : ℕ) → [] ≡ x ++ c ∷ y → ⊥
mid [] y c e = cc
mid (d ∷ x) y c e = cc
