-- What is made by the bodies that are asked for it, where memory alone may be lacking.
use Rattle.std.specs.Prelude.{ℕ, List, Option, Result, Ok, Err}
use Rattle.std.specs.declared.alloc.AllocError.{AllocError}
use Rattle.email_bodies.specs.Asking.{BodyAsk, AsksInVain}
use Rattle.email_bodies.specs.declared.source.MessagePlace.{MessagePlace}
use Rattle.email_get.specs.Asked.{AsksAnd}

-- what was made means this by the bodies that were asked; or memory ran out, after bodies were tried that were due
abbrev pub AsksAndMakes : {S X : Type 0} → (S → MessagePlace → Option (List ℕ) → S → Type 0) → (S → MessagePlace → S → Type 0) → S → S → Result X AllocError
    → (X → List BodyAsk → Type 0) → (List BodyAsk → Type 0) → Type 0
AsksAndMakes Answers Lacks before after (Ok x) Means AreAll = AsksAnd Answers Lacks before after (Means x)
AsksAndMakes Answers Lacks before after (Err e) Means AreAll = AsksInVain Answers Lacks AreAll before after
