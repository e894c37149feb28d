-- The count of changes within a call.
use Rattle.std.specs.Prelude.{◌≡◌, ◌<◌, ◌≤◌, ◌^◌, ◌-◌}
use Rattle.told_mail.specs.Told.{Told}

-- the count never falls, and where it stands, short of its last value, the mail is the same
pub record Rises (old new : Told) : Type 0 where
  pub rises : old.changes ≤ new.changes
  pub stands : old.changes ≡ new.changes → new.changes < 2 ^ 64 - 1 → new.mail ≡ old.mail
