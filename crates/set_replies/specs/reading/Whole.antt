-- Lists of a reply without numbers that have a fraction.
use Rattle.std.specs.Prelude.{◌≡◌, false}
use Rattle.serde_json.specs.View.{items_of}
use Rattle.serde_json.specs.Written.{items_have_float, members_have_float}
use Rattle.set_replies.specs.Lists.{Lists}

pub record AreWhole (l : Lists) : Type 0 where
  pub created : members_have_float l.created ≡ false
  pub not_created : members_have_float l.not_created ≡ false
  pub updated : members_have_float l.updated ≡ false
  pub not_updated : members_have_float l.not_updated ≡ false
  pub destroyed : items_have_float (items_of l.destroyed) ≡ false
  pub not_destroyed : members_have_float l.not_destroyed ≡ false
