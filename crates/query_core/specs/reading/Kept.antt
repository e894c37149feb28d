-- The rows that are kept of others, as a loop keeps them.
use Rattle.std.specs.Prelude.{ℕ, List, [], ◌∷◌}

module _ {V : Type 0} (P : ℕ × V → Type 0) where
  -- of the first rows those are left of which P holds, in their order
  pub data Keeps : List (ℕ × V) → List (ℕ × V) → Type 0 where
    KeepsNone : Keeps [] []
    KeepsOne : (e : ℕ × V) (all kept : List (ℕ × V)) → P e → Keeps all kept → Keeps (e ∷ all) (e ∷ kept)
    LeavesOne : (e : ℕ × V) (all kept : List (ℕ × V)) → (¬ P e) → Keeps all kept → Keeps (e ∷ all) kept
