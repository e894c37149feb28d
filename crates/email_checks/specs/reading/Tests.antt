-- The test of the parts of updates.
use Rattle.std.specs.Prelude.{◌≡◌, Bool}
use Rattle.serde_json.specs.Data.{Data}
use Rattle.set_given.specs.Given as spec
use Rattle.set_given.specs.declared.given.Given.{Given}
use Rattle.set_given.specs.reading.Givens.{IsGiven}
use Rattle.set_patches.specs.declared.patches.Pointer.{Pointer}
use Rattle.email_checks.specs.Asked.{is_right}

-- by one of the facts that are given
pub record TestsEmail (given : Given) (test : Pointer → Data → Bool) : Type 0 where
  pub facts : spec.Given
  pub given_is : IsGiven given facts
  pub same : (p : Pointer) (d : Data) → test p d ≡ is_right facts p d
