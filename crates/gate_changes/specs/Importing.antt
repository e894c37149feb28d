-- The items of an Email/import, one after another over what the machine knows: each is checked, the body of the Email that its blob is of is asked where that isn't
-- kept, and its message is put into its folder (RFC 8621 section 4.8).
use Rattle.std.specs.Prelude.{◌≡◌, ◌≢◌, ◌++◌, ◌||◌, ℕ, ℤ, Bool, true, false, List, [], ◌∷◌, Option, Some, None, Result, Ok, Err}
use Rattle.gate_world.specs.declared.event.Event.{Event}
use Rattle.gate_world.specs.declared.event.Event.TheVariants.{Clock}
use Rattle.email_bodies.specs.Asking.{BodyAsk, AreDue}
use Rattle.email_bodies.specs.declared.error.BodyError.{BodyError}
use Rattle.email_get.specs.Asked.{FailsAfter}
use Rattle.email_import.specs.Imports.{ChecksImport}
use Rattle.email_import.specs.Messages.{FindsMessage, import_job}
use Rattle.email_import.specs.declared.ready.ReadyImport.{ReadyImport}
use Rattle.imap_client.specs.LinkLife.{LinkLife}
use Rattle.jmap_arguments.specs.declared.method_error.MethodError.TheVariants.{ServerUnavailable, ServerPartialFail}
use Rattle.gate_machine.specs.Fetching.{AsksBodies, CallsAsk}
use Rattle.gate_machine.specs.History.{KnownMail}
use Rattle.gate_machine.specs.Progress.{Progress}
use Rattle.gate_machine.specs.declared.mail_status.MailStatus.TheVariants.{Stands}
use Rattle.set_jobs.specs.declared.done.Done.{Done}
use Rattle.set_jobs.specs.declared.done.Done.TheVariants.{Made}
use Rattle.set_jobs.specs.declared.done.SetError.{SetError}
use Rattle.set_jobs.specs.declared.done.SetError.TheVariants.{Forbidden}
use Rattle.set_jobs.specs.declared.job.Job.{Job}
use Rattle.set_order.specs.Ordered.{Item, Create}
use Rattle.set_given.specs.Given.{Given}
use Rattle.set_methods.specs.Checks.{KnownSteps}
use Rattle.set_items.specs.declared.item.ItemEnd.{ItemEnd}
use Rattle.set_items.specs.declared.item.ItemEnd.TheVariants.{Comes, Ends, OutOfMemory}
use Rattle.set_calls.specs.Calls.{SetCall, call_begun, given_at}
use Rattle.gate_changes.specs.Items.{DoesItemsOver, ItemsCame}

-- ---- before a command that changes mail is sent

-- the call is over the history that is served, in what is left of this life
pub record IsServing (call : SetCall) (before : Progress) : Type 0 where
  pub known : KnownMail
  pub life : LinkLife
  pub stands : before.standing ≡ Stands
  pub ready : before.machine.known ≡ Some known
  pub in_life : before.left ≡ Some life
  pub served : call.history ≡ known.history

-- what an import is checked over
abbrev pub given_over : {call : SetCall} {before : Progress} → IsServing call before → Given
given_over {call = call} here = given_at call (call_begun here.known.told.mail here.life)

-- an import makes an Email, and is nothing else
abbrev pub ChecksItem : Given → Item → Result ReadyImport SetError → Type 0
ChecksItem g (Create key ms) came = ChecksImport g ms came
ChecksItem g item came = came ≡ Err Forbidden

-- What there is of an import, by what its octets came to: its steps, made of the present moment; or why it is refused; or none, where its body didn't come.
pub data MakesSteps (i : ReadyImport) : Result (Result (List ℕ) SetError) BodyError → Option (Result Job SetError) → List Event → Type 0 where
  NoBody : (e : BodyError) → MakesSteps i (Err e) None []
  NoMessage : (e : SetError) → MakesSteps i (Ok (Err e)) (Some (Err e)) []
  AtMoment : (message : List ℕ) (now : ℤ) → MakesSteps i (Ok (Ok message)) (Some (Ok (import_job i now message))) (Clock now ∷ [])

-- What an import comes to before that: it is refused by its checks; or its octets are sought, for which at most one body is asked.
pub data PreparesImport (call : SetCall) (uploads : List (List ℕ)) (item : Item) (before : Progress) : List BodyAsk → Option (Result Job SetError) → List Event → Progress
    → Type 0 where
  RefusedAtOnce : (here : IsServing call before) (e : SetError) → ChecksItem (given_over here) item (Err e)
      → PreparesImport call uploads item before [] (Some (Err e)) [] before
  Sought : {asks : List BodyAsk} {made : Option (Result Job SetError)} {asking drawing : List Event} {mid : Progress} (here : IsServing call before) (i : ReadyImport)
      (found : Result (Result (List ℕ) SetError) BodyError) → ChecksItem (given_over here) item (Ok i)
      → FindsMessage call.history.numbered.rows uploads i asks found → AsksBodies before asks asking mid → MakesSteps i found made drawing
      → PreparesImport call uploads item before asks made (asking ++ drawing) mid

-- Memory runs out before that: once a body was asked, or as it was; or once its octets were there and the moment was drawn.
pub data LacksRoom (call : SetCall) (uploads : List (List ℕ)) (item : Item) (before : Progress) : List Event → Progress → Type 0 where
  Seeking : {asking : List Event} {mid : Progress} (here : IsServing call before) (i : ReadyImport) (tried : List BodyAsk) → ChecksItem (given_over here) item (Ok i)
      → CallsAsk before tried asking mid → AreDue (FailsAfter (FindsMessage call.history.numbered.rows uploads i)) tried → LacksRoom call uploads item before asking mid
  WhenMade : {asks : List BodyAsk} {events : List Event} {mid : Progress} (job : Job) → PreparesImport call uploads item before asks (Some (Ok job)) events mid
      → LacksRoom call uploads item before events mid

-- ---- an import

-- the call, for an item whose steps are known, or why it is refused
abbrev pub with_known : SetCall → Result Job SetError → SetCall
with_known call made = record call { rules = KnownSteps made }

-- one item that came to this end
abbrev pub one_came : Item → ItemEnd → ItemsCame
one_came item (Comes done) = Ok ((item, done) ∷ [])
one_came item ends = Err ends

-- What an import comes to: its body doesn't come; or it is done, once it is prepared; or memory runs out before that. The bodies that it asked.
pub data TakesImport (call : SetCall) (uploads : List (List ℕ)) (item : Item) (before : Progress) : List BodyAsk → ItemEnd → List Event → Progress → Type 0 where
  BodyLost : {asks : List BodyAsk} {events : List Event} {after : Progress} → PreparesImport call uploads item before asks None events after
      → TakesImport call uploads item before asks (Ends ServerUnavailable) events after
  Taken : {asks : List BodyAsk} {preparing doing : List Event} {mid after : Progress} (made : Result Job SetError) (ends : ItemEnd)
      → PreparesImport call uploads item before asks (Some made) preparing mid → DoesItemsOver (with_known call made) (item ∷ []) mid (one_came item ends) doing after
      → TakesImport call uploads item before asks ends (preparing ++ doing) after
  NoRoom : {events : List Event} {after : Progress} → LacksRoom call uploads item before events after → TakesImport call uploads item before [] OutOfMemory events after

-- ---- imports in order

-- whether it made an Email
abbrev pub is_made : Done → Bool
is_made (Made mark size) = true
is_made _ = false

-- how a call ends by an import, after others that made an Email or made none: where the store isn't there for it the call failed in part once one was made
abbrev pub ends_after : Bool → ItemEnd → ItemEnd
ends_after true (Ends ServerUnavailable) = Ends ServerPartialFail
ends_after made ends = ends

-- what an item came to, before these
abbrev pub before_these : Item × Done → ItemsCame → ItemsCame
before_these e (Ok done) = Ok (e ∷ done)
before_these e (Err ends) = Err ends

-- These imports are taken in order, after others of the call that made an Email or made none: each comes to something, or one ends the call, or memory runs out
-- before the next one or after the last.
pub data DoesImports (call : SetCall) (uploads : List (List ℕ)) : Bool → Progress → List Item → ItemsCame → List Event → Progress → Type 0 where
  NoImports : {made : Bool} {before : Progress} → IsServing call before → DoesImports call uploads made before [] (Ok []) [] before
  OutBefore : {made : Bool} {before : Progress} {items : List Item} → IsServing call before → DoesImports call uploads made before items (Err OutOfMemory) [] before
  ImportDone : {made : Bool} {before mid after : Progress} {items : List Item} {came : ItemsCame} {asks : List BodyAsk} {first later : List Event} (item : Item) (done : Done)
      → TakesImport call uploads item before asks (Comes done) first mid → DoesImports call uploads (made || is_made done) mid items came later after
      → DoesImports call uploads made before (item ∷ items) (before_these (item, done) came) (first ++ later) after
  ImportEnds : {made : Bool} {before after : Progress} {items : List Item} {asks : List BodyAsk} {events : List Event} (item : Item) (ends : ItemEnd)
      → ((done : Done) → ends ≢ Comes done) → TakesImport call uploads item before asks ends events after
      → DoesImports call uploads made before (item ∷ items) (Err (ends_after made ends)) events after
