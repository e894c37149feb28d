-- What the mail of a request answers to a method, in what is left of the request's link life (RFC 8620 sections 3.6.2 and 5.3).
use Rattle.std.specs.Prelude.{◌≡◌, ℕ, List, map, IsSome, Option, Result, Ok}
use Rattle.gate_world.specs.Causes.{Faults, Hidden, LinkAlone}
use Rattle.gate_world.specs.Tape.{Adds}
use Rattle.gate_world.specs.declared.event.Event.{Event}
use Rattle.serde_json.specs.Data.{Data}
use Rattle.email_bodies.specs.Asking.{BodyAsk, AreDue}
use Rattle.email_get.specs.Asked.{FailsAfter}
use Rattle.imap_client.specs.LinkLife.{ClientState}
use Rattle.jmap_arguments.specs.declared.method_error.MethodError.{MethodError}
use Rattle.jmap_core.specs.CreatedIds.{Ids}
use Rattle.mail_state.specs.History.{MailHistory}
use Rattle.set_arguments.specs.declared.set_method.SetMethod.{SetMethod}
use Rattle.gate_machine.specs.Fetching.{AsksBodies, CallsAsk}
use Rattle.gate_machine.specs.Progress.{Bears, CameTo, Progress, StandsInLife}
use Rattle.gate_machine.specs.declared.machine.Machine.{Machine}
use Rattle.gate_machine.specs.declared.mail_status.MailStatus.{MailStatus}
use Rattle.gate_machine.specs.declared.mail_status.MailStatus.TheVariants.{Stands}
use Rattle.gate_changes.specs.Answering.{DoesChange, LacksAnswer}
use Rattle.gate_calls.specs.Calling.{Asked, Body, CallsState, asks_of, over_at}
use Rattle.gate_calls.specs.ItemChecks.{item_checks}
use Rattle.gate_calls.specs.Mailings.{mail_at}
use Rattle.gate_calls.specs.Methods.{RepliesTo}
use Rattle.gate_calls.specs.declared.method.Method.{Method}
use Rattle.gate_calls.specs.declared.request_mail.RequestMail.{RequestMail}
use Rattle.gate_calls.specs.declared.method.Method.TheVariants.{Set}

-- ---- a method, over its arguments

-- It reads the mail that is served then, or changes it.
pub data DoesMethod (uploads : List (List ℕ)) (m : Method) (d : Data) (before : CallsState) (asks : List Asked) (result : Result Data MethodError)
    (events : List Event) (after : CallsState) : Type 0 where
  ReadsMail : (bodies : List BodyAsk) → RepliesTo m (over_at uploads before) d bodies result → AsksBodies before.progress bodies events after.progress
      → asks ≡ map Body bodies → after.created ≡ before.created → DoesMethod uploads m d before asks result events after
  ChangesMail : (set : SetMethod) (h : MailHistory) → m ≡ Set set → mail_at before.progress ≡ Ok h
      → (does : DoesChange (item_checks uploads) set d (Ok h) before result events after) → asks ≡ asks_of does → DoesMethod uploads m d before asks result events after

pub data LacksMethod (uploads : List (List ℕ)) (m : Method) (d : Data) (before : CallsState) (events : List Event) (after : Progress) : Type 0 where
  LacksReading : (tried : List BodyAsk) → CallsAsk before.progress tried events after → AreDue (FailsAfter (RepliesTo m (over_at uploads before) d)) tried
      → LacksMethod uploads m d before events after
  LacksChanging : (set : SetMethod) (h : MailHistory) → m ≡ Set set → mail_at before.progress ≡ Ok h → LacksAnswer (item_checks uploads) set d (Ok h) before events after
      → LacksMethod uploads m d before events after

-- ---- the code's mail

-- what serves the calls, the ids that were created by then, and what contracts know of the outside
pub record RequestMoment : Type 0 where
  pub machine : Machine
  pub client : ClientState
  pub status : MailStatus
  pub created : Ids
  pub tape : Option (List Event)
  pub faults : Faults
  pub hidden : Hidden

abbrev pub moment_of : RequestMail → Ids → Option (List Event) → Faults → Hidden → RequestMoment
moment_of mail created tape faults hidden = record {
  machine = mail.machine;
  client = mail.client;
  status = mail.status;
  created = created;
  tape = tape;
  faults = faults;
  hidden = hidden;
}

-- the work came so far; where the mail is served there is a link life, which may have ended
pub record IsAt (s : RequestMoment) (was : Faults) (p : Progress) : Type 0 where
  pub came : CameTo s.machine s.client s.status was s.faults p
  pub has_life : s.status ≡ Stands → IsSome p.left

-- what answering leaves as it is
pub record LeavesOutside (before after : RequestMoment) : Type 0 where
  pub alone : LinkAlone before.faults after.faults
  pub hidden : after.hidden ≡ before.hidden

pub record RequestAnswers (uploads : List (List ℕ)) (before : RequestMoment) (m : Method) (d : Data) (result : Result Data MethodError) (after : RequestMoment)
    : Type 0 where
  pub run : Adds before.tape after.tape (λ es. (p : Progress) (was : Faults) → IsAt before was p → (asks : List Asked) × (q : Progress)
      × DoesMethod uploads m d (record { progress = p; created = before.created }) asks result es (record { progress = q; created = after.created })
      × IsAt after was q)
  pub leaves : LeavesOutside before after

-- memory runs out
pub record RequestLacks (uploads : List (List ℕ)) (before : RequestMoment) (m : Method) (d : Data) (after : RequestMoment) : Type 0 where
  pub run : Adds before.tape after.tape (λ es. (p : Progress) (was : Faults) → IsAt before was p → (q : Progress)
      × LacksMethod uploads m d (record { progress = p; created = before.created }) es q × StandsInLife q.left after.client × Bears q.blamed was after.faults)
  pub leaves : LeavesOutside before after
