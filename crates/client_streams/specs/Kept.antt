-- What is kept of a response.
use Rattle.std.specs.Prelude.{ℕ, List}

-- the octets that its client has not taken yet, in order, and how many were kept in all
pub record Kept : Type 0 where
  pub unsent : List ℕ
  pub stored : ℕ
