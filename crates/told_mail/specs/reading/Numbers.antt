-- Numbers of folders within a call.
use Rattle.std.specs.Prelude.{◌≡◌, ℕ, ◌<◌, ◌≤◌, None}
use Rattle.told_folder.specs.Folders.{held_in}
use Rattle.told_mail.specs.Mail.{Mail}

-- the folder counter doesn't fall, and a number that was given and that no folder has is given to none
pub record NumbersGoOn (before after : Mail) : Type 0 where
  pub counter : before.next_folder ≤ after.next_folder
  pub ended : (n : ℕ) → n < before.next_folder → held_in before.folders n ≡ None → held_in after.folders n ≡ None
