-- Calls that read, as they come over the one mail that is served before the first of them.
use Rattle.std.specs.Prelude.{◌≡◌, ℕ, List, map}
use Rattle.gate_world.specs.declared.event.Event.{Event}
use Rattle.email_bodies.specs.Asking.{BodyAsk, AreDue}
use Rattle.jmap_arguments.specs.declared.using.Using.{Using}
use Rattle.result_references.specs.Call.{CallData}
use Rattle.gate_machine.specs.Fetching.{AsksBodies, CallsAsk}
use Rattle.gate_machine.specs.Progress.{Progress}
use Rattle.gate_calls.specs.Calling.{Asked, Body, CallsState, over_at}
use Rattle.gate_calls.specs.Calls.{AnswersCalls, FirstCallsAsk}

-- all of them are answered over that mail, and ask these bodies in all; the ids stay
pub record AnsweredOverOne (uses : Using) (uploads : List (List ℕ)) (before : CallsState) (calls : List CallData) (asks : List Asked)
    (responses : List CallData) (events : List Event) (after : CallsState) : Type 0 where
  pub bodies : List BodyAsk
  pub asks_are : asks ≡ map Body bodies
  pub answers : AnswersCalls uses (over_at uploads before) calls bodies responses
  pub asked : AsksBodies before.progress bodies events after.progress
  pub created : after.created ≡ before.created

-- Memory runs out, after bodies were asked that were due for the first of them.
pub record LacksOverOne (uses : Using) (uploads : List (List ℕ)) (before : CallsState) (calls : List CallData) (events : List Event) (after : Progress)
    : Type 0 where
  pub tried : List BodyAsk
  pub asked : CallsAsk before.progress tried events after
  pub due : AreDue (FirstCallsAsk uses (over_at uploads before) calls) tried
