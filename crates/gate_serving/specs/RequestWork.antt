-- The work on one request, from its last octet to the first of the response.
use Rattle.std.specs.Prelude.{◌≡◌, ◌++◌, ℕ, true, false, List, [], Option, None}
use Rattle.gate_world.specs.declared.event.Event.{Event}
use Rattle.imap_exchange.specs.Answering.{HangsUp}
use Rattle.gate_machine.specs.Progress.{Progress, idle, is_up}
use Rattle.gate_machine.specs.Beginning.{PreparesMail}
use Rattle.gate_machine.specs.Machine.{MachineState}
use Rattle.gate_serving.specs.Answers.{Answer}
use Rattle.gate_serving.specs.Doing.{Does}
use Rattle.gate_serving.specs.Requests.{Account, Asking, asks_for_mail}

-- The link life of a request that needs the mail: the way to the mail, what is done over it, and the end. It is over before anything is sent.
pub record WorksOverMail (account : Account) (uploads : List (List ℕ)) (before : MachineState) (asking : Asking) (events : List Event)
    (came : Option Answer) (after : Progress) : Type 0 where
  pub begun : Progress
  pub answered : Progress
  pub beginning : List Event
  pub doing : List Event
  pub ending : List Event
  pub prepares : PreparesMail account.user account.password before beginning begun
  pub does : Does account uploads asking begun doing answered came
  pub hangs_up : HangsUp (is_up answered.left) ending
  pub whole : events ≡ beginning ++ (doing ++ ending)
  pub after_is : after ≡ record answered { left = None }

-- A link life stands only after a request that needs the mail. Nothing is asked of the outside for any other, which is answered over whatever the
-- machine serves.
pub data RequestWork (account : Account) (uploads : List (List ℕ)) (before : MachineState) (asking : Asking) (events : List Event) (came : Option Answer)
    (after : Progress) : Type 0 where
  NoMail : asks_for_mail asking ≡ false → Does account uploads asking (idle before) [] (idle before) came → events ≡ [] → after ≡ idle before
      → RequestWork account uploads before asking events came after
  WithMail : asks_for_mail asking ≡ true → WorksOverMail account uploads before asking events came after
      → RequestWork account uploads before asking events came after

-- where the work is from which on the request is answered
abbrev pub begun_in : {account : Account} {uploads : List (List ℕ)} {before : MachineState} {asking : Asking} {events : List Event} {came : Option Answer}
    {after : Progress} → RequestWork account uploads before asking events came after → Progress
begun_in {before = before} (NoMail a does b c) = idle before
begun_in (WithMail a work) = work.begun
