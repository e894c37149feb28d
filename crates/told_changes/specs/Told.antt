-- What a completed exchange tells: where a message went, then its responses, then what its OK says of flags and folders.
use Rattle.std.specs.Prelude.{Bool, true, false, Option, Some, None, if◌then◌else◌}
use Rattle.imap_types.specs.declared.command.Command.{Command}
use Rattle.imap_types.specs.declared.command.Command.TheVariants as command
use Rattle.imap_types.specs.declared.response.Status.{Status}
use Rattle.imap_types.specs.declared.response.Status.TheVariants as status
use Rattle.told_folder.specs.declared.exchange.Exchange.{Exchange}
use Rattle.told_mail.specs.Mail.{Mail}
use Rattle.told_mail.specs.Exchanges.{tell_ok}
use Rattle.told_changes.specs.declared.landing.Landing.{Landing}
use Rattle.told_changes.specs.Landings.{landing, is_contradicted, target_of}
use Rattle.told_changes.specs.Changes.{landed, changed_by}

-- whether the command changes mail
abbrev pub is_changing : Command → Bool
is_changing (command.Store uid add flags) = true
is_changing (command.Move uid name) = true
is_changing (command.Expunge uid) = true
is_changing (command.Append name flags date message) = true
is_changing (command.Create name) = true
is_changing (command.Delete name) = true
is_changing (command.Rename from to) = true
is_changing (command.Subscribe name on) = true
is_changing _ = false

-- the mail once its message went where it is told
abbrev pub landed_by : Mail → Exchange → Option Landing → Mail
landed_by m x None = m
landed_by m x (Some l) = landed m x.command x.selected l

-- the responses, and what follows them
abbrev pub told_then : Mail → Exchange → Mail
told_then m x = changed_by (tell_ok m x.command x.responses x.selected) x.command x.responses x.selected

-- where its usable code contradicts the mail the exchange tells nothing at all
abbrev pub told_landed : Mail → Exchange → Option Landing → Mail
told_landed m x None = told_then m x
told_landed m x (Some l) = if is_contradicted m (target_of m x.command) l then m else told_then (landed m x.command x.selected l) x

abbrev pub told_as : Status → Mail → Exchange → Mail
told_as status.Ok m x = told_landed m x (landing m x)
told_as _ m x = m

-- what a completed exchange tells
abbrev pub told : Mail → Exchange → Mail
told m x = told_as x.status m x
