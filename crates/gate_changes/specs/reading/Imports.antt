-- What the code's imports come to.
use Rattle.std.specs.Prelude.{◌≡◌, ◌⊎◌, ◌++◌, ℕ, ℤ, Bool, true, List, [], ◌∷◌, Option, Some, None, Result, Ok, Err}
use Rattle.std.specs.declared.alloc.AllocError.{AllocError}
use Rattle.gate_world.specs.Causes.{Faults}
use Rattle.gate_world.specs.declared.event.Event.{Event}
use Rattle.gate_world.specs.declared.event.Event.TheVariants.{Clock}
use Rattle.email_bodies.specs.Asking.{BodyAsk}
use Rattle.email_bodies.specs.declared.error.BodyError.{BodyError}
use Rattle.email_bodies.specs.declared.error.BodyError.TheVariants as body
use Rattle.email_bodies.specs.declared.source.MessagePlace.{MessagePlace}
use Rattle.email_get.specs.Asked.{AsksAndMeets}
use Rattle.email_import.specs.Messages.{FindsMessage, import_job}
use Rattle.email_import.specs.declared.ready.ReadyImport.{ReadyImport}
use Rattle.imap_client.specs.LinkLife.{ClientState}
use Rattle.mail_maps.specs.Rows.{Rows}
use Rattle.jmap_arguments.specs.declared.method_error.MethodError.TheVariants.{ServerUnavailable, ServerPartialFail}
use Rattle.gate_machine.specs.Progress.{Progress, CameTo}
use Rattle.gate_machine.specs.declared.machine.Machine.{Machine}
use Rattle.gate_machine.specs.declared.mail_status.MailStatus.TheVariants.{Stands}
use Rattle.set_jobs.specs.declared.done.Done.{Done}
use Rattle.set_jobs.specs.declared.done.SetError.{SetError}
use Rattle.set_order.specs.Ordered.{Item}
use Rattle.set_calls.specs.Calls.{SetCall}
use Rattle.set_calls.specs.declared.call.CallEnd.{CallEnd}
use Rattle.set_calls.specs.declared.call.CallEnd.TheVariants as ends
use Rattle.set_calls.specs.reading.Calling.{came_end}
use Rattle.gate_changes.specs.Importing.{IsServing, LacksRoom, PreparesImport, TakesImport}
use Rattle.gate_changes.specs.reading.Asking.{IsLeft}

-- how a call ends by an import whose body didn't come
abbrev pub end_of : BodyError → CallEnd
end_of body.Ended = ends.Fails ServerUnavailable
end_of body.Memory = ends.Memory

-- how a call ends after imports that made an Email, or made none
abbrev pub end_after : Bool → CallEnd → CallEnd
end_after true (ends.Fails ServerUnavailable) = ends.Fails ServerPartialFail
end_after made end = end

-- memory ran out before an import, or in it before a command that changes mail
abbrev pub RunsShort : SetCall → List (List ℕ) → Item → Progress → List Event → Progress → Type 0
RunsShort call uploads item before events mid = LacksRoom call uploads item before events mid ⊎ (IsServing call before × (events ≡ []) × (mid ≡ before))

-- what came of the message, with the import
abbrev pub with_import : ReadyImport → Result (Result (List ℕ) SetError) BodyError → Result (Result (ReadyImport × List ℕ) SetError) BodyError
with_import i (Ok (Ok message)) = Ok (Ok (i, message))
with_import i (Ok (Err e)) = Ok (Err e)
with_import i (Err e) = Err e

-- a source that answers so, and lacks memory so, before and after the octets of an import are sought
module _ {S : Type 0} (Answers : S → MessagePlace → Option (List ℕ) → S → Type 0) (Lacks : S → MessagePlace → S → Type 0) (before after : S) (emails : Rows)
    (uploads : List (List ℕ)) where
  -- its message was sought, and this came of it
  abbrev pub FindsOctets : ReadyImport → Result (Result (ReadyImport × List ℕ) SetError) BodyError → Type 0
  FindsOctets i came = (found : Result (Result (List ℕ) SetError) BodyError)
      × AsksAndMeets Answers Lacks before after body.Memory (λ r. r) found (FindsMessage emails uploads i) × (came ≡ with_import i found)

  -- where it came to this by its checks; nothing is asked where it is refused by them, or memory ran out
  abbrev pub FindsChecked : Result (Result ReadyImport SetError) AllocError → Result (Result (ReadyImport × List ℕ) SetError) BodyError → Type 0
  FindsChecked (Ok (Ok i)) came = FindsOctets i came
  FindsChecked (Ok (Err e)) came = (came ≡ Ok (Err e)) × (after ≡ before)
  FindsChecked (Err e) came = (came ≡ Err body.Memory) × (after ≡ before)

-- The octets of an import were sought, and the code is where that is.
abbrev pub SeeksTo : SetCall → List (List ℕ) → Item → Progress → Result (Result (ReadyImport × List ℕ) SetError) BodyError → Machine → ClientState → Faults → Faults → List Event
    → Type 0
SeeksTo call uploads item before (Ok (Ok (i, message))) machine client was now events = (asks : List BodyAsk) × (mid : Progress)
    × ((moment : ℤ) → PreparesImport call uploads item before asks (Some (Ok (import_job i moment message))) (events ++ Clock moment ∷ []) mid)
    × CameTo machine client Stands was now mid
SeeksTo call uploads item before (Ok (Err e)) machine client was now events = (asks : List BodyAsk) × (mid : Progress)
    × PreparesImport call uploads item before asks (Some (Err e)) events mid × CameTo machine client Stands was now mid
SeeksTo call uploads item before (Err body.Ended) machine client was now events = (asks : List BodyAsk) × (mid : Progress)
    × PreparesImport call uploads item before asks None events mid × CameTo machine client Stands was now mid
SeeksTo call uploads item before (Err body.Memory) machine client was now events = (mid : Progress) × RunsShort call uploads item before events mid × IsLeft mid client was now

-- An import came to this, and the code is where that is.
abbrev pub ImportCame : SetCall → List (List ℕ) → Item → Progress → Result Done CallEnd → Machine → ClientState → Faults → Faults → List Event → Type 0
ImportCame call uploads item before (Err ends.Memory) machine client was now events = (mid : Progress)
    × (((asks : List BodyAsk) × TakesImport call uploads item before asks (came_end (Err ends.Memory)) events mid) ⊎ RunsShort call uploads item before events mid)
    × IsLeft mid client was now
ImportCame call uploads item before came machine client was now events = (asks : List BodyAsk) × (mid : Progress)
    × TakesImport call uploads item before asks (came_end came) events mid × CameTo machine client Stands was now mid
