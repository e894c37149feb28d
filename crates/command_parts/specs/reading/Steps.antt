-- Readings, and how they follow one another.
use Rattle.std.specs.Prelude.{◌≡◌, ℕ, suc, List, [], ◌∷◌, length, Result, Ok, Err}
use Rattle.command_parts.specs.declared.no_command.NoCommand.{NoCommand}
use Rattle.command_parts.specs.declared.no_command.NoCommand.TheVariants.{NeedMore, Bad}
use Rattle.command_parts.specs.declared.lexeme.LexemeStep.{LexemeStep}
use Rattle.command_parts.specs.declared.lexeme.LexemeStep.TheVariants as step

infixl 10 ◌>>=◌
abbrev pub ◌>>=◌ : {A B : Type 0} → Result A NoCommand → (A → Result B NoCommand) → Result B NoCommand
(Ok x) >>= f = f x
(Err e) >>= f = Err e

-- what a function returned, seen by view, is what reading gives
abbrev pub ReadingGives : {X Y : Type 0} → (X → Y) → Result X NoCommand → Result Y NoCommand → Type 0
ReadingGives view (Ok x) read = read ≡ Ok (view x)
ReadingGives view (Err e) read = read ≡ Err e

-- ---- lexemes

-- after an octet, of which b follow
abbrev pub stepped_to : {S : Type 0} → LexemeStep S → (S → Result (S × List ℕ) NoCommand) → List ℕ → Result (S × List ℕ) NoCommand
stepped_to step.Fail go b = Err (Bad (suc (length b)))
stepped_to (step.On s) go b = go s
stepped_to (step.End s) go b = Ok (s, b)

-- the lexeme at the front, from a state on, and what follows it
unfoldable pub read_from : {S : Type 0} → (S → ℕ → LexemeStep S) → S → List ℕ → Result (S × List ℕ) NoCommand
read_from f s [] = Err NeedMore
read_from f s (c ∷ b) = stepped_to (f s c) (λ p. read_from f p b) b
