-- A client whose response has ended.
use Rattle.std.proofs.Common.{◌≡◌, ℕ, List, Bool, subst}
use Rattle.std.specs.Prelude.{Option, Some}
use Rattle.client_front.specs.Finishing.{EndsResponse}
use Rattle.client_streams.specs.Draining.{DropsAll, finished}
use Rattle.client_streams.specs.declared.finished.Finished.{Finished}

module _ {C S : Type 0} (ends : S → S → Type 0) (gives : S → ℕ → Option (List ℕ) → S → Type 0) (reads : C → Option ℕ → C → Type 0) where
  -- nothing more is sent to it from a look of the clock on, and it is drained
  pub response-ends : (stays : Bool) (stream ended : S) (clock later : C) (now : ℕ) (fresh client : Finished S) → ends stream ended
      → reads clock (Some now) later → fresh ≡ finished now ended → DropsAll gives stays fresh client
      → EndsResponse ends gives reads stays stream clock later client
  response-ends stays stream ended clock later now fresh client did looked is drained =
      (now, ended, did, looked, subst (λ (f : Finished S). DropsAll gives stays f client) is drained)
