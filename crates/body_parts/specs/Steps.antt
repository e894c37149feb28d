-- What is put into the members of an object, one thing after another.
use Rattle.std.specs.Prelude.{◌≡◌, List, [], ◌∷◌}
use Rattle.serde_json.specs.Data.{Members}

module _ {A : Type 0} (Step : A → Members → Members → Type 0) where
  -- the steps of these, each from where the one before it leads
  abbrev pub InTurn : List A → Members → Members → Type 0
  InTurn [] before after = after ≡ before
  InTurn (x ∷ xs) before after = (one : Members) × Step x before one × InTurn xs one after
