-- What a result is meant to be.
use Rattle.std.proofs.Common.{◌≡◌, ℕ, List, Result, Ok, Err, ◌∙◌}
use Rattle.std.specs.Prelude.{IfOk}
use Rattle.std.specs.declared.alloc.AllocError.{AllocError}

-- a text that is another's
pub meant_as : {X : Type 0} {a b : List ℕ} (f : X → List ℕ) (result : Result X AllocError) → IfOk result (λ x. f x ≡ a) → a ≡ b → IfOk result (λ x. f x ≡ b)
meant_as f (Ok x) is same = is ∙ same
meant_as f (Err e) is same = tt
