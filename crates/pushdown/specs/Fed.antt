-- What a scanner was fed.
use Rattle.std.specs.Prelude.{◌≡◌, ◌≢◌, ℕ, ◌+◌, ◌*◌, ◌≤◌, List, [], ◌∷◌, ◌++◌, length, Some}
use Rattle.imap_types.specs.Texts.{plain_octets, outside}
use Rattle.pushdown.specs.declared.answer.Answer.{Answer}
use Rattle.pushdown.specs.declared.answer.Answer.TheVariants.{Whole, NeedMore, Bad}
use Rattle.pushdown.specs.declared.scanner.Scanner.{Scanner}
use Rattle.pushdown.specs.Automaton.{Automaton}
use Rattle.pushdown.specs.Symbols.{symbols_of}
use Rattle.pushdown.specs.Run.{run, start}
use Rattle.pushdown.specs.Flow.{Ready, left_of}
use Rattle.pushdown.specs.Answers.{IsWhole, IsPrefix}

-- the symbols that the octets lead to, and how many of these stand outside literals
pub record LeavesSymbols {S : Type 0} (a : Automaton S) (ss : List S) (out : ℕ) (b : List ℕ) : Type 0 where
  pub text : List ℕ
  pub octets : plain_octets text ≡ b
  pub leads : run a (Some (start a)) text ≡ Some ss
  pub counted : out ≡ outside text
  pub within : out ≤ a.limit

-- the scanner was fed these octets, and answered that it needs more
pub record Fed {S : Type 0} (a : Automaton S) (s : Scanner S) (b : List ℕ) : Type 0 where
  pub ready : Ready a (symbols_of s.stack)
  pub more : symbols_of s.stack ≢ []
  pub stands : LeavesSymbols a (symbols_of s.stack) s.outside b
  pub taken : s.taken ≡ length b
  pub bound : s.taken + left_of a (symbols_of s.stack) ≤ (a.most + 1) * s.outside

-- of a piece the scanner was fed what stands before the rest
pub record FedUpTo {S : Type 0} (a : Automaton S) (s : Scanner S) (b piece rest : List ℕ) : Type 0 where
  pub front : List ℕ
  pub whole : piece ≡ front ++ rest
  pub fed : Fed a s (b ++ front)

-- what one octet more is answered
abbrev pub TakesOctet : {S : Type 0} → Automaton S → Scanner S → List ℕ → ℕ → Answer → Type 0
TakesOctet a new b c (Whole n) = (n ≡ length b + 1) × IsWhole a (b ++ c ∷ [])
TakesOctet a new b c NeedMore = Fed a new (b ++ c ∷ [])
TakesOctet a new b c (Bad at) = (at ≡ length b) × (IsPrefix a (b ++ c ∷ []) → ⊥)
