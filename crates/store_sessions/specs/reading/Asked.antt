-- What was read may be answered.
use Rattle.small_responses.specs.Tellable.{IsTellableCommand}
use Rattle.store_commands.specs.declared.command_read.CommandRead.{CommandRead}
use Rattle.store_commands.specs.declared.command_read.CommandRead.TheVariants.{Whole, NeedMore, WantsLiteral, Bad}

abbrev pub AsksTellable : CommandRead → Type 0
AsksTellable (Whole count tag command) = IsTellableCommand command
AsksTellable NeedMore = Unit {0}
AsksTellable WantsLiteral = Unit {0}
AsksTellable (Bad at) = Unit {0}
