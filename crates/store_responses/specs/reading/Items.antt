-- Items that are written one after another, with a space between two.
use Rattle.std.specs.Prelude.{◌≡◌, ℕ, Bool, true, false, ◌&&◌, List, [], ◌∷◌, ◌++◌, if◌then◌else◌}
use Rattle.imap_types.specs.Lines.{spaced, joined}

-- the items, where none was written before, and where some was
abbrev pub written : Bool → List (List ℕ) → List ℕ
written first items = if first then joined items else spaced items

abbrev pub are_none : List (List ℕ) → Bool
are_none [] = true
are_none (item ∷ items) = false

-- the items are added, and it is said whether none is written now
pub record WritesItems (old new : List ℕ) (first : Bool) (items : List (List ℕ)) (none : Bool) : Type 0 where
  pub text : new ≡ old ++ written first items
  pub none_is : none ≡ (first && are_none items)
