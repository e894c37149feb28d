-- What the code keeps of what is known: no history, but a state that stands for it.
use Rattle.std.specs.Prelude.{◌≡◌, ◌≤◌, ◌<◌, ◌^◌, ◌-◌, ℕ}
use Rattle.told_mail.specs.Mail.{Mail, IsNextMail, SameMail}
use Rattle.told_mail.specs.Told.{Told}
use Rattle.mail_state.specs.State.{ServedState, IsStateOf}
use Rattle.email_bodies.specs.Keeping.{Bodies}
use Rattle.gate_machine.specs.History.{KnownMail}

-- the state, the mail that it was made of, the mail told since, and the bodies that are kept
pub record KeptMail : Type 0 where
  pub state : ServedState
  pub served : Mail
  pub told : Told
  pub bodies : Bodies

-- the part of it that calls over the link leave as it is, with the count of changes at which the told mail was last the same as the served
pub record ServedMail : Type 0 where
  pub state : ServedState
  pub served : Mail
  pub same_at : ℕ

-- where the count of the told mail stands, short of its last value, that is the same mail still
pub record IsSameSince (m : ServedMail) (told : Told) : Type 0 where
  pub later : m.same_at ≤ told.changes
  pub same : told.changes ≡ m.same_at → told.changes < 2 ^ 64 - 1 → SameMail m.served told.mail

-- It is kept of this. What was told since is mail that the history can go on to.
pub record IsKeptOf (k : KnownMail) (a : KeptMail) : Type 0 where
  pub state : IsStateOf k.history a.state
  pub served : a.served ≡ k.history.mail
  pub told : a.told ≡ k.told
  pub bodies : a.bodies ≡ k.bodies
  pub next : IsNextMail k.history.mail k.told.mail
