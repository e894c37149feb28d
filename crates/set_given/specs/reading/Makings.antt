-- The folders that a call made as the code has them.
use Rattle.std.specs.Prelude.{◌≡◌, ℕ, ◌==◌, List, bytes_eq}
use Rattle.std.specs.BTreeMap.{get_by}
use Rattle.std.specs.BTreeSet.{contains}
use Rattle.std.specs.Cmp.Lexicographic.{slice_cmp}
use Rattle.std.specs.List.{list_any}
use Rattle.std.specs.Map.{lookup}
use Rattle.std.specs.Ordering.{nat_cmp}
use Rattle.set_given.specs.Given.{MadeFolders as Made}
use Rattle.set_given.specs.declared.made.MadeFolders.{MadeFolders}

-- they are these, of which the last made stands first
pub record IsMade (code : MadeFolders) (made : Made) : Type 0 where
  pub by_key : (key : List ℕ) → get_by (λ k. slice_cmp nat_cmp key k.now) code.by_key ≡ lookup (bytes_eq key) made
  pub numbers : (n : ℕ) → contains nat_cmp code.numbers n ≡ list_any (λ (e : List ℕ × ℕ). e.1 == n) made
