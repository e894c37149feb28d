-- The body of a message: SELECT of its folder where that isn't selected, and its fetch (RFC 9051 sections 6.3.2 and 6.4.5).
use Rattle.std.specs.Prelude.{◌≡◌, ◌≢◌, ◌==◌, ℕ, Bool, false, List, bytes_eq, fold, if◌then◌else◌, Option, Some, None, Result, Ok, Err}
use Rattle.std.specs.List.{filter_map}
use Rattle.gate_world.specs.declared.event.Event.{Event}
use Rattle.imap_types.specs.declared.command.Command.TheVariants as command
use Rattle.imap_types.specs.declared.response.FetchItems.{FetchItems}
use Rattle.imap_types.specs.declared.response.Response.{Response}
use Rattle.imap_types.specs.declared.response.Response.TheVariants as response
use Rattle.told_folder.specs.Keyed.{last_of}
use Rattle.told_folder.specs.declared.exchange.Exchange.{Exchange}
use Rattle.told_folder.specs.declared.message.Folder.{Folder}
use Rattle.told_mail.specs.Mail.{Mail, folder_in}
use Rattle.told_mail.specs.Exchanges.{is_uid, tell}
use Rattle.imap_exchange.specs.declared.link_end.LinkEnd.{LinkEnd}
use Rattle.imap_exchange.specs.declared.link_end.LinkEnd.TheVariants as end
use Rattle.imap_client.specs.declared.plan.Due.{Due}
use Rattle.imap_client.specs.declared.plan.Due.TheVariants as due
use Rattle.imap_client.specs.declared.plan.Refusal.TheVariants as refusal
use Rattle.imap_client.specs.declared.body.BodyStage.{BodyStage}
use Rattle.imap_client.specs.declared.body.BodyStage.TheVariants as stage
use Rattle.imap_client.specs.Connecting.{is_ok}
use Rattle.imap_client.specs.Selecting.{select_of, tells_kept}
use Rattle.imap_client.specs.LinkLife.{LinkLife, ClientState, selected}
use Rattle.imap_client.specs.Plans.{Planned, Follows}

-- ---- what is told

abbrev pub body_of_items : ℕ → FetchItems → Option (List ℕ)
body_of_items uid items = if is_uid uid items.uid then items.body else None

abbrev pub body_in : ℕ → Response → Option (List ℕ)
body_in uid (response.Fetch seq items) = body_of_items uid items
body_in uid _ = None

-- the last body that is told for the UID
abbrev pub last_body : ℕ → List Response → Option (List ℕ)
last_body uid rs = last_of (filter_map (body_in uid) rs)

-- ---- stages

abbrev pub is_selected : Option (List ℕ) → List ℕ → Bool
is_selected None name = false
is_selected (Some selected) name = bytes_eq selected name

-- where a client begins that has this folder selected
abbrev pub body_begun : Option (List ℕ) → Option Folder → BodyStage
body_begun selected None = stage.Failing refusal.Lacks
body_begun selected (Some f) = if is_selected selected f.name then stage.Fetching else stage.Selecting

abbrev pub select_due : Option Folder → Due
select_due (Some f) = select_of f
select_due None = due.Fails refusal.Lacks

abbrev pub body_due : ℕ → ℕ → BodyStage → Mail → Due
body_due folder uid stage.Selecting m = select_due (folder_in m.folders folder)
body_due folder uid stage.Fetching m = due.Send (command.FetchBody uid)
body_due folder uid (stage.Fetched body) m = due.Done
body_due folder uid (stage.Failing why) m = due.Fails why

abbrev pub folder_validity : Option Folder → ℕ
folder_validity (Some f) = f.validity
folder_validity None = 0

-- another validity, or none: it may be another folder
abbrev pub selected_body_stage : ℕ → List Response → BodyStage
selected_body_stage validity rs = if tells_kept validity rs then stage.Fetching else stage.Failing refusal.Lacks

abbrev pub HasBody : BodyStage → Type 0
HasBody (stage.Fetched body) = Unit {0}
HasBody _ = ⊥

abbrev pub fetched : Option (List ℕ) → BodyStage
fetched (Some body) = stage.Fetched body
fetched None = stage.Failing refusal.Lacks

-- The stage once an exchange is answered OK: the validity under which the folder is kept, and its responses.
abbrev pub body_obeyed : ℕ → BodyStage → ℕ → List Response → BodyStage
body_obeyed uid stage.Selecting validity rs = selected_body_stage validity rs
body_obeyed uid stage.Fetching validity rs = fetched (last_body uid rs)
body_obeyed uid (stage.Fetched body) validity rs = stage.Fetched body
body_obeyed uid (stage.Failing why) validity rs = stage.Failing why

abbrev pub body_after : ℕ → BodyStage → ℕ → Exchange → BodyStage
body_after uid s validity x = if is_ok x.status then body_obeyed uid s validity x.responses else stage.Failing refusal.Refused

-- the fetch so far: how far it is, and the mail that is told
pub record BodyState : Type 0 where
  pub stage : BodyStage
  pub mail : Mail

abbrev pub body_step : ℕ → ℕ → BodyState → Exchange → BodyState
body_step folder uid s x = record {
  stage = body_after uid s.stage (folder_validity (folder_in s.mail.folders folder)) x;
  mail = tell s.mail x;
}

-- what is asked next from here, once these exchanges are completed
abbrev pub body_from : ℕ → ℕ → BodyState → Planned
body_from folder uid s xs = let now = fold (body_step folder uid) s xs in body_due folder uid now.stage now.mail

-- where the fetch begins, where this folder is selected and this mail was told before
abbrev pub body_start : Option (List ℕ) → Mail → ℕ → BodyState
body_start selected m folder = record { stage = body_begun selected (folder_in m.folders folder); mail = m }

abbrev pub without_body : Result (List ℕ) LinkEnd → Result (Unit {0}) LinkEnd
without_body (Ok body) = Ok tt
without_body (Err e) = Err e

-- The fetch of a body in a life, and the life that is left: the mail is what completed exchanges told, in order, unless
-- memory ran out, and the body is the one that the fetch ends with.
pub record FetchesBody (folder uid : ℕ) (before after : Mail) (life left : LinkLife) (client : ClientState) (result : Result (List ℕ) LinkEnd)
    (events : List Event) : Type 0 where
  pub exchanges : List Exchange
  pub follows : Follows (body_from folder uid (body_start (selected life) before folder)) life left exchanges client (without_body result) events
  pub told : result ≢ Err end.Memory → after ≡ fold tell before exchanges
  pub body : (octets : List ℕ) → result ≡ Ok octets → (fold (body_step folder uid) (body_start (selected life) before folder) exchanges).stage ≡ stage.Fetched
      octets
