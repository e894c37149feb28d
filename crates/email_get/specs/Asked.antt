-- What comes of a call that asks bodies of a source.
use Rattle.std.specs.Prelude.{◌≡◌, ◌⊎◌, ℕ, List, Option, Result, Ok, Err}
use Rattle.email_bodies.specs.Asking.{BodyAsk, AreAsked, AsksInVain}
use Rattle.email_bodies.specs.declared.source.MessagePlace.{MessagePlace}
use Rattle.email_bodies.specs.declared.error.BodyError.{BodyError}
use Rattle.email_bodies.specs.declared.error.BodyError.TheVariants.{Ended, Memory}
use Rattle.jmap_arguments.specs.declared.method_error.MethodError.{MethodError}
use Rattle.jmap_arguments.specs.declared.method_error.MethodError.TheVariants as method
use Rattle.mail_maps.specs.declared.row.EmailRow.{EmailRow}

-- where the message of an Email is asked
abbrev pub place_of : EmailRow → MessagePlace
place_of row = record { email = row.number; folder = row.folder; uid = row.uid }

-- one ask for it
abbrev pub ask_for : EmailRow → Option (List ℕ) → BodyAsk
ask_for row body = record { message = place_of row; body = body }

-- by these asks an error is meant
abbrev pub FailsAfter : {Y E : Type 0} → (List BodyAsk → Result Y E → Type 0) → List BodyAsk → Type 0
FailsAfter {E = E} IsMeant asks = (e : E) × IsMeant asks (Err e)

-- a source that answers so, and lacks memory so, before and after a call
module _ {S : Type 0} (Answers : S → MessagePlace → Option (List ℕ) → S → Type 0) (Lacks : S → MessagePlace → S → Type 0) (before after : S) where
  -- these bodies were asked, and so much is meant by their answers
  pub record AsksAnd (IsMeant : List BodyAsk → Type 0) : Type 0 where
    pub asks : List BodyAsk
    pub asked : AreAsked Answers before asks after
    pub meant : IsMeant asks

  -- As `Meets`: what a call gave, seen by `view`, is one of the results that are meant by the bodies that it asked; only the error `memory` is free.
  -- Up to that the call has asked for bodies that were due.
  abbrev pub AsksAndMeets : {X Y E : Type 0} → E → (X → Y) → Result X E → (List BodyAsk → Result Y E → Type 0) → Type 0
  AsksAndMeets memory view (Ok x) IsMeant = AsksAnd (λ asks. IsMeant asks (Ok (view x)))
  AsksAndMeets memory view (Err e) IsMeant = ((e ≡ memory) × AsksInVain Answers Lacks (FailsAfter IsMeant) before after)
      ⊎ AsksAnd (λ asks. IsMeant asks (Err e))

-- what a method answers where a body isn't there
abbrev pub error_by : BodyError → MethodError
error_by Ended = method.ServerUnavailable
error_by Memory = method.Memory
