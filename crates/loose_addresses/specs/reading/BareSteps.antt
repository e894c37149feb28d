-- How the code finds an "@" within a text.
use Rattle.std.specs.Prelude.{◌≡◌, ◌≢◌, ℕ, Bool, not, ◌==◌, List, [], ◌∷◌, ◌++◌}

abbrev pub is_no_at : ℕ → Bool
is_no_at c = not (c == 64)

-- octets stand before and after an "@"
pub record HasInnerAt (t : List ℕ) : Type 0 where
  pub before : List ℕ
  pub behind : List ℕ
  pub whole : t ≡ before ++ 64 ∷ behind
  pub some_before : before ≢ []
  pub some_behind : behind ≢ []
