-- What who answers has to know: the small store's mail can be told, and a command leaves it so.
use Rattle.imap_types.specs.declared.command.Command.{Command}
use Rattle.honest_store.specs.StoreMail.{StoreMail}
use Rattle.small_answers.specs.SmallMail.{HasStorableParts, IsSmallMail}
use Rattle.small_responses.specs.SendableMail.{HasSendableParts, IsSendableMail}

-- the small store's mail, of which each response may be sent
pub record IsTellableMail (mail : StoreMail) : Type 0 where
  pub small : IsSmallMail mail
  pub sendable : IsSendableMail mail

-- a command that leaves such mail
pub record IsTellableCommand (c : Command) : Type 0 where
  pub askable : HasStorableParts c
  pub sendable : HasSendableParts c
