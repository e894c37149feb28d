-- Steps that are taken where a test says so.
use Rattle.std.specs.Prelude.{◌≡◌, Bool}
use Rattle.std.specs.Bool.{MatchBool}
use Rattle.serde_json.specs.Data.{Members}

module _ {A : Type 0} (test : A → Bool) (Step : A → Members → Members → Type 0) where
  abbrev pub StepIf : A → Members → Members → Type 0
  StepIf x before after = MatchBool (test x) (Step x before after) (after ≡ before)
