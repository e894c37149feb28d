-- An automaton: what octets do to symbols, and the texts that each symbol reads.
use Rattle.std.specs.Prelude.{◌≡◌, ℕ, Bool, List, [], ◌∷◌}
use Rattle.imap_types.specs.Texts.{Then}
use Rattle.pushdown.specs.declared.moves.Move.{Move}
use Rattle.pushdown.specs.declared.moves.Move.TheVariants as move

pub record Automaton (S : Type 0) : Type 1 where
  -- what an octet does to a symbol
  pub rule_of : S → ℕ → Move S
  -- the texts that a symbol reads
  pub language : S → List ℕ → Type 0
  -- what the registers of a symbol keep
  pub fits : S → Bool
  -- its last octets may be followed by nothing but a stop
  pub ends_open : S → Bool
  -- it begins with a stop
  pub begins : S → Bool
  -- it may end before an octet
  pub may_yield : S → Bool
  -- the octets before which a symbol that ends open ends
  pub stops : ℕ → Bool
  -- how many symbols there may be while it is read, itself among them
  pub need : S → ℕ
  -- how many octets of a literal it still reads
  pub left : S → ℕ
  pub with_left : S → ℕ → S
  -- it reads a whole text
  pub start : S
  -- octets that may stand outside literals in one text
  pub limit : ℕ
  -- octets of a literal
  pub most : ℕ

-- symbols in turn
abbrev pub Langs : {S : Type 0} → (S → List ℕ → Type 0) → List S → List ℕ → Type 0
Langs language [] t = t ≡ []
Langs language (s ∷ ss) t = Then (language s) (Langs language ss) t

-- what is still read after a move
abbrev pub After : {S : Type 0} → (S → List ℕ → Type 0) → Move S → List ℕ → Type 0
After language move.Fail t = ⊥
After language move.Yield t = ⊥
After language move.End t = t ≡ []
After language (move.One a) t = language a t
After language (move.Two a b) t = Then (language a) (language b) t
