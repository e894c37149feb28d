-- Creation ids as the code has them.
use Rattle.std.specs.Prelude.{◌≡◌, ℕ, List, map}
use Rattle.std.specs.Borrow.{Bor}
use Rattle.std.specs.BTreeSet.{BTreeSet}
use Rattle.jmap_arguments.specs.Arguments.{is_among}

-- the set has these texts
abbrev pub HasKeys : BTreeSet (Bor (List ℕ)) → List (List ℕ) → Type 0
HasKeys set keys = (text : List ℕ) → is_among text (map (λ k. k.now) set.keys) ≡ is_among text keys
