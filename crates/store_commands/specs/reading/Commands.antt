-- A command with its tag, and what is answered where there is none.
use Rattle.std.specs.Prelude.{ℕ, ◌-◌, true, false, List, length, Result, Ok, Err}
use Rattle.imap_types.specs.declared.command.Command.{Command}
use Rattle.imap_types.specs.declared.command.Command.TheVariants.{Capability, Enable, List as ListFolders, Unselect}
use Rattle.command_parts.specs.declared.no_command.NoCommand.{NoCommand}
use Rattle.command_parts.specs.declared.no_command.NoCommand.TheVariants as none
use Rattle.store_commands.specs.declared.command_read.CommandRead.{CommandRead}
use Rattle.store_commands.specs.declared.command_read.CommandRead.TheVariants.{Whole, NeedMore, WantsLiteral, Bad}
use Rattle.command_parts.specs.declared.fixed_text.FixedText.{FixedText}
use Rattle.command_parts.specs.declared.fixed_text.FixedText.TheVariants as word
use Rattle.command_parts.specs.declared.fixed_text.Choice.TheVariants as choice
use Rattle.command_parts.specs.reading.Steps.{◌>>=◌}
use Rattle.command_parts.specs.reading.Lexemes.{tag_at}
use Rattle.command_parts.specs.reading.FixedTexts.{choice_at}
use Rattle.store_commands.specs.reading.Arguments.{login_at, select_at, append_at, create_at, delete_at, rename_at, subscribe_at}
use Rattle.store_commands.specs.reading.Arguments.{fetch_at, store_at, move_at, expunge_at}

unfoldable pub folder_arguments_at : FixedText → List ℕ → Result (Command × List ℕ) NoCommand
folder_arguments_at word.Login b = login_at b
folder_arguments_at word.Select b = select_at b
folder_arguments_at word.Append b = append_at b
folder_arguments_at word.Create b = create_at b
folder_arguments_at word.Delete b = delete_at b
folder_arguments_at word.Rename b = rename_at b
folder_arguments_at word.Subscribe b = subscribe_at true b
folder_arguments_at _ b = subscribe_at false b

unfoldable pub message_arguments_at : FixedText → List ℕ → Result (Command × List ℕ) NoCommand
message_arguments_at word.Fetch b = fetch_at b
message_arguments_at word.Store b = store_at b
message_arguments_at word.Move b = move_at b
message_arguments_at word.Expunge b = expunge_at b
message_arguments_at k b = folder_arguments_at k b

-- behind the text with which a command begins
unfoldable pub arguments_at : FixedText → List ℕ → Result (Command × List ℕ) NoCommand
arguments_at word.Capability b = Ok (Capability, b)
arguments_at word.Enable b = Ok (Enable, b)
arguments_at word.Unselect b = Ok (Unselect, b)
arguments_at word.List b = Ok (ListFolders false, b)
arguments_at word.ListAtom b = Ok (ListFolders false, b)
arguments_at word.ListSubscribed b = Ok (ListFolders false, b)
arguments_at word.ListAtomSubscribed b = Ok (ListFolders false, b)
arguments_at word.ListSpecialUse b = Ok (ListFolders true, b)
arguments_at word.ListAtomSpecialUse b = Ok (ListFolders true, b)
arguments_at k b = message_arguments_at k b

unfoldable pub command_at : List ℕ → Result ((List ℕ × Command) × List ℕ) NoCommand
command_at b = do
  tag ← tag_at b
  keyword ← choice_at choice.Commands tag.1
  command ← arguments_at keyword.0 keyword.1
  Ok ((tag.0, command.0), command.1)

abbrev pub answer_without : NoCommand → ℕ → CommandRead
answer_without none.NeedMore count = NeedMore
answer_without none.WantsLiteral count = WantsLiteral
answer_without (none.Bad left) count = Bad (count - left)

abbrev pub answer_to : List ℕ → Result ((List ℕ × Command) × List ℕ) NoCommand → CommandRead
answer_to b (Ok r) = Whole (length b - length r.1) (r.0).0 (r.0).1
answer_to b (Err e) = answer_without e (length b)
