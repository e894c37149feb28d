-- Steps of lexemes by tests.
use Rattle.std.proofs.Common.{◌≡◌, ℕ, Bool, true, false, List, cond, refl}
use Rattle.command_parts.specs.declared.lexeme.LexemeStep.{LexemeStep}
use Rattle.command_parts.specs.declared.lexeme.LexemeStep.TheVariants as step
use Rattle.command_parts.proofs.Lexing.{AcceptsBy, is_fail}

-- what is accepted after the step that a test chooses
pub from_if : {S P : Type 0} (b : Bool) (m n : LexemeStep S) (Go : S → Type 0) (v : S) (t : List ℕ) → (b ≡ true → AcceptsBy m Go v t → P) → (b ≡ false → AcceptsBy n Go v t → P)
    → AcceptsBy (cond b m n) Go v t → P
from_if true m n Go v t f g h = f refl h
from_if false m n Go v t f g h = g refl h

pub at_true : {S : Type 0} (b : Bool) (m n : LexemeStep S) (Go : S → Type 0) (v : S) (t : List ℕ) → b ≡ true → AcceptsBy m Go v t → AcceptsBy (cond b m n) Go v t
at_true true m n Go v t e h = h
at_true false m n Go v t e h = absurd cc

pub at_false : {S : Type 0} (b : Bool) (m n : LexemeStep S) (Go : S → Type 0) (v : S) (t : List ℕ) → b ≡ false → AcceptsBy n Go v t → AcceptsBy (cond b m n) Go v t
at_false true m n Go v t e h = absurd cc
at_false false m n Go v t e h = h

-- a step that goes on, by the test that chose it
pub on_if : {S P : Type 0} (b : Bool) (m n : LexemeStep S) (p : S) → (b ≡ true → m ≡ step.On p → P) → (b ≡ false → n ≡ step.On p → P) → cond b m n ≡ step.On p → P
on_if true m n p f g e = f refl e
on_if false m n p f g e = g refl e

pub end_if : {S P : Type 0} (b : Bool) (m n : LexemeStep S) (p : S) → (b ≡ true → m ≡ step.End p → P) → (b ≡ false → n ≡ step.End p → P) → cond b m n ≡ step.End p → P
end_if true m n p f g e = f refl e
end_if false m n p f g e = g refl e

-- a step that doesn't fail, by the test that chose it
pub go_if : {S P : Type 0} (b : Bool) (m n : LexemeStep S) → (b ≡ true → (is_fail m ≡ true → ⊥) → P) → (b ≡ false → (is_fail n ≡ true → ⊥) → P)
    → (is_fail (cond b m n) ≡ true → ⊥) → P
go_if true m n f g h = f refl h
go_if false m n f g h = g refl h
