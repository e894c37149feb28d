-- Plans that send nothing that changes mail.
use Rattle.std.specs.Prelude.{◌≡◌, false, List}
use Rattle.imap_types.specs.declared.command.Command.{Command}
use Rattle.told_folder.specs.declared.exchange.Exchange.{Exchange}
use Rattle.told_changes.specs.Told.{is_changing}
use Rattle.imap_client.specs.Plans.{Planned}
use Rattle.imap_client.specs.declared.plan.Due.TheVariants as due

-- whatever the store answered so far
abbrev pub ChangesNothing : Planned → Type 0
ChangesNothing plan = (xs : List Exchange) (c : Command) → plan xs ≡ due.Send c → is_changing c ≡ false
