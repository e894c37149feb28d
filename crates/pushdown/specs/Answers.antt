-- Octets that are a text of a grammar, or begin one.
use Rattle.std.specs.Prelude.{◌≡◌, ◌≢◌, ℕ, ◌+◌, ◌<◌, ◌≤◌, List, [], ◌++◌, length, take}
use Rattle.imap_types.specs.Texts.{plain_octets, outside}
use Rattle.pushdown.specs.declared.answer.Answer.{Answer}
use Rattle.pushdown.specs.declared.answer.Answer.TheVariants.{Whole, NeedMore, Bad}
use Rattle.pushdown.specs.Automaton.{Automaton}

pub record IsWhole {S : Type 0} (a : Automaton S) (b : List ℕ) : Type 0 where
  pub text : List ℕ
  pub reads : a.language a.start text
  pub octets : plain_octets text ≡ b
  pub within : outside text ≤ a.limit

-- the octets begin a text: one taken without the limit, which they keep themselves
pub record IsPrefix {S : Type 0} (a : Automaton S) (b : List ℕ) : Type 0 where
  pub text : List ℕ
  pub more : List ℕ
  pub reads : a.language a.start (text ++ more)
  pub octets : plain_octets text ≡ b
  pub within : outside text ≤ a.limit

pub record IsProperPrefix {S : Type 0} (a : Automaton S) (b : List ℕ) : Type 0 where
  pub text : List ℕ
  pub more : List ℕ
  pub reads : a.language a.start (text ++ more)
  pub octets : plain_octets text ≡ b
  pub within : outside text ≤ a.limit
  pub proper : more ≢ []

-- the first n octets are a whole text; the octets are a proper prefix of one; the first at + 1 are a prefix of none,
-- and the first at are a proper one
abbrev pub AnswerOf : {S : Type 0} → Automaton S → List ℕ → Answer → Type 0
AnswerOf a b (Whole n) = (n ≤ length b) × IsWhole a (take n b)
AnswerOf a b NeedMore = IsProperPrefix a b
AnswerOf a b (Bad at) = (at < length b) × (IsPrefix a (take (at + 1) b) → ⊥) × IsProperPrefix a (take at b)
