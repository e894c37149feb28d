-- What a watcher hears.
use Rattle.std.specs.Prelude.{◌≡◌, ◌++◌, ℕ, List, Option, Some}

-- where it is told what was heard after, it was told before, and these lines came
pub record HearsLines (before after : Option (List (List ℕ))) (lines : List (List ℕ)) : Type 0 where
  pub told : (now : List (List ℕ)) → after ≡ Some now → (was : List (List ℕ)) × (before ≡ Some was) × (now ≡ was ++ lines)
