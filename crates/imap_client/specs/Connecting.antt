-- The greeting, and what is asked of a store until its mail may be read (RFC 9051 sections 6.1.1, 6.2.3, 6.3.1 and 7.1,
-- RFC 7162 section 3.2.3).
use Rattle.std.specs.Prelude.{◌≡◌, ◌++◌, ◌&&◌, ℕ, Bool, true, false, List, [], ◌∷◌, length, codes, if◌then◌else◌, IfErr, Option, Some, None, Result, Ok, Err}
use Rattle.std.specs.List.{list_any}
use Rattle.std.specs.Str.{str_eq_ignore_ascii_case}
use Rattle.gate_world.specs.declared.event.Event.{Event}
use Rattle.gate_world.specs.declared.event.Event.TheVariants.{Dialed, LinkEnded}
use Rattle.gate_world.specs.Octets.{Talk}
use Rattle.imap_types.specs.declared.command.Command.TheVariants as command
use Rattle.imap_types.specs.declared.response.Response.{Response}
use Rattle.imap_types.specs.declared.response.Response.TheVariants.{Untagged, Enabled}
use Rattle.imap_types.specs.declared.response.Status.{Status}
use Rattle.imap_types.specs.declared.response.Status.TheVariants as status
use Rattle.imap_grammar.specs.Scan.{ScanOf}
use Rattle.imap_grammar.specs.declared.answer.Scan.TheVariants as scan
use Rattle.told_folder.specs.declared.exchange.Exchange.{Exchange}
use Rattle.imap_exchange.specs.declared.link_end.LinkEnd.{LinkEnd}
use Rattle.imap_exchange.specs.declared.link_end.LinkEnd.TheVariants as end
use Rattle.imap_exchange.specs.Received.{Octets, nothing_given}
use Rattle.imap_exchange.specs.Begins.{Begins}
use Rattle.imap_exchange.specs.Needed.{ReadsWhile}
use Rattle.imap_exchange.specs.Responses.{AwaitsResponse}
use Rattle.imap_exchange.specs.Answering.{IsTooMuch, end_unless}
use Rattle.imap_client.specs.declared.plan.Due.{Due}
use Rattle.imap_client.specs.declared.plan.Due.TheVariants as due
use Rattle.imap_client.specs.declared.plan.Refusal.TheVariants as refusal
use Rattle.imap_client.specs.declared.connection.Stage.{Stage}
use Rattle.imap_client.specs.declared.connection.Stage.TheVariants as stage
use Rattle.imap_client.specs.Capabilities.{tells}
use Rattle.imap_client.specs.LinkLife.{LinkLife, ClientState, Stands}
use Rattle.imap_client.specs.Unread.{LeavesUnread}
use Rattle.imap_client.specs.Plans.{Planned, Follows}

-- ---- the greeting

-- What a greeting says: BYE ends the life, PREAUTH leaves LOGIN out (sections 7.1.4 and 7.1.5). Any other counts as OK.
abbrev pub greeting_says : Response → Result Bool LinkEnd
greeting_says (Untagged status.Bye _) = Err end.Bye
greeting_says (Untagged status.Preauth _) = Ok true
greeting_says _ = Ok false

-- What the octets of a new life say first: a greeting other than BYE; or why there is none.
abbrev pub GreetsBy : List ℕ → Octets → Result Bool LinkEnd → Type 0
GreetsBy gave after (Ok preauth) =
    (greeting : Response) × (greeting_says greeting ≡ Ok preauth) × Begins (greeting ∷ []) after.octets gave × (after.given ≡ length gave)
GreetsBy gave after (Err end.Bye) = (greeting : Response) × (rest : List ℕ) × (greeting_says greeting ≡ Err end.Bye) × Begins (greeting ∷ []) rest gave
GreetsBy gave after (Err end.Lost) = ScanOf gave scan.NeedMore × (IsTooMuch nothing_given gave → ⊥)
GreetsBy gave after (Err (end.Bad at)) = (place : ℕ) × ScanOf gave (scan.Bad place) × (at ≡ 0)
GreetsBy gave after (Err end.TooMuch) = ScanOf gave scan.NeedMore × IsTooMuch nothing_given gave
GreetsBy gave after (Err end.Memory) = Unit {0}
GreetsBy gave after (Err _) = ⊥

-- the store gave these octets, and none once a greeting was whole or too much stood there
pub record GivesFirst (gave : List ℕ) (events : List Event) : Type 0 where
  pub said : Talk gave [] events
  pub needed : ReadsWhile (AwaitsResponse 0 nothing_given) events

pub record Greets (after : Octets) (up : Bool) (result : Result Bool LinkEnd) (events : List Event) : Type 0 where
  pub talk : List Event
  pub gave : List ℕ
  pub ended : events ≡ talk ++ end_unless up
  pub first : GivesFirst gave talk
  pub greets : GreetsBy gave after result
  pub left : IfErr result (λ (e : LinkEnd). LeavesUnread e gave after.octets)

-- a life of which the greeting alone came
pub record IsNew (life : LinkLife) : Type 0 where
  pub greeted : Begins (life.greeting ∷ []) life.rest life.gave
  pub unasked : life.exchanges ≡ []
  pub untaken : life.took ≡ []
  pub whole : life.part ≡ []
  pub alive : life.goes_on ≡ true

-- ---- what is asked

abbrev pub is_ok : Status → Bool
is_ok status.Ok = true
is_ok _ = false

-- the word is among those that the response says are enabled, in letters of either case (section 9)
abbrev pub has_enabled : List ℕ → Response → Bool
has_enabled word (Enabled words) = list_any (str_eq_ignore_ascii_case word) words
has_enabled word _ = false

abbrev pub enables : List ℕ → Exchange → Bool
enables word x = list_any (has_enabled word) x.responses

-- The stage after an exchange. LOGINDISABLED refuses where LOGIN is still to be sent (section 6.2.3).
abbrev pub stage_after : Bool → Stage → Exchange → Stage
stage_after preauth stage.Asking x =
    if is_ok x.status then (if preauth then stage.AskingAgain else (if tells (codes "LOGINDISABLED") x then stage.Failing refusal.Refused else stage.LoggingIn))
    else stage.Failing refusal.Refused
stage_after preauth stage.LoggingIn x = if is_ok x.status then stage.AskingAgain else stage.Failing refusal.Refused
stage_after preauth stage.AskingAgain x =
    if is_ok x.status then (if tells (codes "IMAP4rev2") x && tells (codes "QRESYNC") x then stage.Enabling else stage.Failing refusal.NoQresync)
    else stage.Failing refusal.Refused
stage_after preauth stage.Enabling x = if is_ok x.status && enables (codes "QRESYNC") x then stage.Connected else stage.Failing refusal.NoQresync
stage_after preauth stage.Connected x = stage.Connected
stage_after preauth (stage.Failing why) x = stage.Failing why

abbrev pub due_at : List ℕ → List ℕ → Stage → Due
due_at user password stage.Asking = due.Send command.Capability
due_at user password stage.LoggingIn = due.Send (command.Login user password)
due_at user password stage.AskingAgain = due.Send command.Capability
due_at user password stage.Enabling = due.Send command.Enable
due_at user password stage.Connected = due.Done
due_at user password (stage.Failing why) = due.Fails why

-- what is due from a stage on
abbrev pub planned_from : Bool → List ℕ → List ℕ → Stage → Planned
planned_from preauth user password at [] = due_at user password at
planned_from preauth user password at (x ∷ xs) = planned_from preauth user password (stage_after preauth at x) xs

-- CAPABILITY, LOGIN unless the greeting was PREAUTH, CAPABILITY, ENABLE
abbrev pub connect_plan : Bool → List ℕ → List ℕ → Planned
connect_plan preauth user password = planned_from preauth user password stage.Asking

-- no greeting came, or a BYE
pub record IsUnwelcome (e : LinkEnd) (events : List Event) : Type 0 where
  pub talk : List Event
  pub gave : List ℕ
  pub whole : events ≡ talk ++ LinkEnded ∷ []
  pub first : GivesFirst gave talk
  pub greets : GreetsBy gave nothing_given (Err e)

-- a greeting came that lets the client in, and the client stands in the life of which it alone came
pub record IsMet (preauth : Bool) (life : LinkLife) (client : ClientState) (events : List Event) : Type 0 where
  pub first : GivesFirst life.gave events
  pub new : IsNew life
  pub says : greeting_says life.greeting ≡ Ok preauth
  pub stands : Stands client life

-- What reading the greeting of a life adds, after which it goes on or has ended.
abbrev pub IsGreeted : ClientState → Result Bool LinkEnd → List Event → Type 0
IsGreeted client (Ok preauth) events = (life : LinkLife) × IsMet preauth life client events
IsGreeted client (Err e) events = IsUnwelcome e events

-- The same, and the octets that stay unread where they can't be read.
abbrev pub IsGreetedKeeping : ClientState → Octets → Result Bool LinkEnd → List Event → Type 0
IsGreetedKeeping client unread (Ok preauth) events = IsGreeted client (Ok preauth) events
IsGreetedKeeping client unread (Err e) events = (unwelcome : IsUnwelcome e events) × LeavesUnread e unwelcome.gave unread.octets

-- a greeting came, and then what is asked
pub record IsWelcome (user password : List ℕ) (life after : LinkLife) (client : ClientState) (result : Result (Unit {0}) LinkEnd)
    (events : List Event) : Type 0 where
  pub preauth : Bool
  pub exchanges : List Exchange
  pub talk : List Event
  pub last : List Event
  pub whole : events ≡ talk ++ last
  pub first : GivesFirst life.gave talk
  pub new : IsNew life
  pub says : greeting_says life.greeting ≡ Ok preauth
  pub follows : Follows (connect_plan preauth user password) life after exchanges client result last

-- What a life adds from its dial on, until all is asked, and the life that is left; none where no greeting came. After each
-- error it has ended.
pub data Lives (user password : List ℕ) (left : Option LinkLife) (client : ClientState) (result : Result (Unit {0}) LinkEnd)
    (events : List Event) : Type 0 where
  Unwelcome : (e : LinkEnd) → IsUnwelcome e events → result ≡ Err e → left ≡ None → Lives user password left client result events
  Welcome : (life after : LinkLife) → IsWelcome user password life after client result events → left ≡ Some after
      → Lives user password left client result events

-- What connecting adds, and the life that is left.
pub data Connects (user password : List ℕ) (left : Option LinkLife) (client : ClientState) (result : Result (Unit {0}) LinkEnd)
    (events : List Event) : Type 0 where
  -- out of memory before the dial
  Unready : events ≡ [] → result ≡ Err end.Memory → left ≡ None → Connects user password left client result events
  Undialed : events ≡ LinkEnded ∷ [] → result ≡ Err end.Lost → left ≡ None → Connects user password left client result events
  Lived : (life : List Event) → events ≡ Dialed ∷ life → Lives user password left client result life → Connects user password left client result events
