-- The command that octets ask, by what was read of them.
use Rattle.imap_types.specs.declared.command.Command.{Command}
use Rattle.imap_types.specs.declared.command.Command.TheVariants as command
use Rattle.store_commands.specs.declared.request.CommandRequest.{CommandRequest}
use Rattle.store_commands.specs.declared.request.CommandRequest.TheVariants as request
use Rattle.command_parts.specs.reading.Strings.{credential_of}
use Rattle.imap_values.specs.Strings.{astring_in}
use Rattle.imap_values.specs.Spans.{flags_in}

abbrev pub command_asked : CommandRequest → Command
command_asked request.Capability = command.Capability
command_asked (request.Login user password) = command.Login (credential_of user) (credential_of password)
command_asked request.Enable = command.Enable
command_asked (request.List special_use) = command.List special_use
command_asked (request.Select name known) = command.Select (astring_in name.now).0 known
command_asked request.Unselect = command.Unselect
command_asked request.FetchFlags = command.FetchFlags
command_asked (request.FetchSlice from to modseq) = command.FetchSlice from to modseq
command_asked (request.FetchNew from modseq) = command.FetchNew from modseq
command_asked (request.FetchBody uid) = command.FetchBody uid
command_asked (request.Store uid add flags) = command.Store uid add (flags_in flags.now).0
command_asked (request.Move uid name) = command.Move uid (astring_in name.now).0
command_asked (request.Expunge uid) = command.Expunge uid
command_asked (request.Append name flags date message) = command.Append (astring_in name.now).0 (flags_in flags.now).0 date message.now
command_asked (request.Create name) = command.Create (astring_in name.now).0
command_asked (request.Delete name) = command.Delete (astring_in name.now).0
command_asked (request.Rename from to) = command.Rename (astring_in from.now).0 (astring_in to.now).0
command_asked (request.Subscribe name on) = command.Subscribe (astring_in name.now).0 on
