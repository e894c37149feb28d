-- What stays of a history that goes on: its touches, and so the map at each place that there was.
use Rattle.std.specs.Prelude.{◌≡◌, ◌≤◌, ◌++◌, ℕ, List}
use Rattle.change_list.specs.History.{Touch}
use Rattle.served_maps.specs.Past.{Past, had_at, place_now}
use Rattle.mail_state.specs.History.{MailHistory}

-- the touches that there were stand at the front of those that there are
abbrev pub Extends : {V : Type 0} → Past V → Past V → Type 0
Extends {V} before after = (more : List (Touch V)) × (after.touches ≡ before.touches ++ more)

pub record KeepsTouches (h after : MailHistory) : Type 0 where
  pub epoch : after.epoch ≡ h.epoch
  pub mailboxes : Extends h.mailboxes after.mailboxes
  pub emails : Extends h.emails after.emails
  pub threads : Extends h.threads after.threads

-- each place that was is there, and has the map that it had
pub record HasPlacesOf {V : Type 0} (before after : Past V) : Type 0 where
  pub places : place_now before ≤ place_now after
  pub maps : (place q : ℕ) → place ≤ place_now before → had_at after place q ≡ had_at before place q

-- so a state that a client was told names the same map
pub record KeepsMaps (h after : MailHistory) : Type 0 where
  pub epoch : after.epoch ≡ h.epoch
  pub mailboxes : HasPlacesOf h.mailboxes after.mailboxes
  pub emails : HasPlacesOf h.emails after.emails
  pub threads : HasPlacesOf h.threads after.threads
