-- The rules of an automaton are those of its languages.
use Rattle.std.specs.Prelude.{◌≡◌, ℕ, ◌+◌, ◌-◌, ◌*◌, ◌<◌, ◌≤◌, nat_lt, Bool, true, false, List, [], ◌∷◌}
use Rattle.pushdown.specs.declared.moves.Move.TheVariants as move
use Rattle.pushdown.specs.Automaton.{Automaton, After}
use Rattle.pushdown.specs.Run.{inside}
use Rattle.pushdown.specs.Flow.{room, move_good, move_needs, is_go, pushed_left, Leaves}

pub record IsLawful {S : Type 0} (a : Automaton S) : Type 0 where
  -- a symbol reads an octet and more exactly where its rule says so, and reads something
  pub back : (s : S) (c : ℕ) (t : List ℕ) → a.fits s ≡ true → After a.language (a.rule_of s c) t → a.language s (c ∷ t)
  pub forth : (s : S) (c : ℕ) (t : List ℕ) → a.fits s ≡ true → a.language s (c ∷ t) → After a.language (a.rule_of s c) t
  pub example : (s : S) → a.fits s ≡ true → (t : List ℕ) × a.language s t
  -- what may end before an octet reads the empty text, and ends before a stop
  pub empty : (s : S) → a.fits s ≡ true → a.language s [] → a.may_yield s ≡ true
  pub yields : (s : S) (c : ℕ) → a.fits s ≡ true → a.rule_of s c ≡ move.Yield → (a.may_yield s ≡ true) × a.language s []
  pub ends : (s : S) (c : ℕ) → a.may_yield s ≡ true → a.language s [] → a.stops c ≡ true → a.rule_of s c ≡ move.Yield
  pub yields_open : (s : S) → a.may_yield s ≡ true → a.ends_open s ≡ true
  pub begins_stop : (s : S) (c : ℕ) (t : List ℕ) → a.begins s ≡ true → a.language s (c ∷ t) → a.stops c ≡ true
  pub begins_some : (s : S) → a.begins s ≡ true → a.may_yield s ≡ true → ⊥
  -- what moves keep
  pub good : (s : S) (c : ℕ) → a.fits s ≡ true → move_good a (a.ends_open s) (a.rule_of s c) ≡ true
  pub needs : (s : S) (c : ℕ) → a.fits s ≡ true → move_needs a (a.need s) (a.rule_of s c) ≡ true
  pub needs_some : (s : S) → 1 ≤ a.need s
  -- literals: only their octets are marked, and each is taken as the one before
  pub begins_outside : (s : S) → a.begins s ≡ true → inside a s ≡ false
  pub open_outside : (s : S) → a.ends_open s ≡ true → inside a s ≡ false
  pub unmarked : (s : S) (c : ℕ) → inside a s ≡ false → a.fits s ≡ true → nat_lt c 256 ≡ false → is_go (a.rule_of s c) ≡ false
  pub marked : (s : S) (c : ℕ) → inside a s ≡ true → nat_lt c 256 ≡ true → a.rule_of s c ≡ move.Fail
  pub leaves : (s : S) (c : ℕ) → a.fits s ≡ true → Leaves a.most (inside a s) (a.left s) (pushed_left a (a.rule_of s c))
  pub taken : (s : S) (c : ℕ) → 1 < a.left s → c < 256 → a.rule_of s (c + 256) ≡ move.One (a.with_left s (a.left s - 1))
  pub left_with : (s : S) (n : ℕ) → 0 < a.left s → a.left (a.with_left s n) ≡ n
  pub with_with : (s : S) (n m : ℕ) → a.with_left (a.with_left s n) m ≡ a.with_left s m
  pub with_same : (s : S) → a.with_left s (a.left s) ≡ s
  pub with_fits : (s : S) (n : ℕ) → a.fits s ≡ true → 0 < n → n ≤ a.left s → a.fits (a.with_left s n) ≡ true
  pub with_need : (s : S) (n : ℕ) → a.need (a.with_left s n) ≡ a.need s
  pub with_open : (s : S) (n : ℕ) → a.ends_open (a.with_left s n) ≡ a.ends_open s
  -- where a text begins, and that its octets can be counted
  pub start_fits : a.fits a.start ≡ true
  pub start_ends : a.ends_open a.start ≡ false
  pub start_room : a.need a.start ≤ room
  pub start_left : a.left a.start ≡ 0
  pub counted : (a.most + 1) * a.limit < 18446744073709551616
