-- The arguments of commands, up to the command's end.
use Rattle.std.specs.Prelude.{ℕ, true, false, Bool, ◌==◌, if◌then◌else◌, List, get_or, Some, None, Result, Ok}
use Rattle.imap_types.specs.declared.command.Command.{Command}
use Rattle.imap_types.specs.declared.command.Command.TheVariants.{Login, Select, FetchFlags, FetchSlice, FetchNew, FetchBody, Store, Move, Expunge, Append}
use Rattle.imap_types.specs.declared.command.Command.TheVariants.{Create, Delete, Rename, Subscribe}
use Rattle.command_parts.specs.declared.no_command.NoCommand.{NoCommand}
use Rattle.command_parts.specs.declared.follow.Follow.TheVariants as follow
use Rattle.command_parts.specs.declared.fixed_text.FixedText.{FixedText}
use Rattle.command_parts.specs.declared.fixed_text.FixedText.TheVariants as word
use Rattle.command_parts.specs.declared.fixed_text.Choice.{Choice}
use Rattle.command_parts.specs.declared.fixed_text.Choice.TheVariants as choice
use Rattle.command_parts.specs.reading.Steps.{◌>>=◌}
use Rattle.command_parts.specs.reading.Lexemes.{numeral_at, number_at}
use Rattle.command_parts.specs.reading.FixedTexts.{choice_at, fixed_at}
use Rattle.command_parts.specs.reading.Strings.{name_at, last_name_at, credential_at, literal_at, flags_at, date_at}

unfoldable pub login_at : List ℕ → Result (Command × List ℕ) NoCommand
login_at b = do
  user ← credential_at follow.Space b
  password ← credential_at follow.Line user.1
  end ← fixed_at word.LineFeed password.1
  Ok (Login user.0 password.0, end.1)

unfoldable pub known_at : List ℕ → Result ((ℕ × ℕ) × List ℕ) NoCommand
known_at b = do
  start ← fixed_at word.Qresync b
  validity ← number_at follow.Space start.1
  modseq ← numeral_at 18446744073709551615 follow.Close validity.1
  end ← fixed_at word.KnownEnd modseq.1
  Ok (((validity.0).0, (modseq.0).0), end.1)

unfoldable pub known_folder_at : List ℕ → List ℕ → Result (Command × List ℕ) NoCommand
known_folder_at name b = do
  known ← known_at b
  Ok (Select name (Some known.0), known.1)

unfoldable pub new_folder_at : List ℕ → List ℕ → Result (Command × List ℕ) NoCommand
new_folder_at name b = do
  end ← fixed_at word.LineFeed b
  Ok (Select name None, end.1)

-- by the octet behind the name
unfoldable pub selected_at : List ℕ → ℕ → List ℕ → Result (Command × List ℕ) NoCommand
selected_at name end b = if end == 32 then known_folder_at name b else new_folder_at name b

unfoldable pub select_at : List ℕ → Result (Command × List ℕ) NoCommand
select_at b = do
  name ← name_at follow.SpaceOrLine b
  selected_at (name.0).0 (name.0).1 name.1

unfoldable pub append_at : List ℕ → Result (Command × List ℕ) NoCommand
append_at b = do
  name ← name_at follow.Space b
  bracket ← fixed_at word.Open name.1
  flags ← flags_at bracket.1
  space ← fixed_at word.Space flags.1
  date ← date_at space.1
  brace ← fixed_at word.LiteralOpen date.1
  message ← literal_at follow.Line brace.1
  end ← fixed_at word.LineFeed message.1
  Ok (Append (name.0).0 flags.0 date.0 message.0, end.1)

unfoldable pub create_at : List ℕ → Result (Command × List ℕ) NoCommand
create_at b = do
  name ← last_name_at b
  Ok (Create name.0, name.1)

unfoldable pub delete_at : List ℕ → Result (Command × List ℕ) NoCommand
delete_at b = do
  name ← last_name_at b
  Ok (Delete name.0, name.1)

unfoldable pub rename_at : List ℕ → Result (Command × List ℕ) NoCommand
rename_at b = do
  name ← name_at follow.Space b
  other ← last_name_at name.1
  Ok (Rename (name.0).0 other.0, other.1)

unfoldable pub subscribe_at : Bool → List ℕ → Result (Command × List ℕ) NoCommand
subscribe_at on b = do
  name ← last_name_at b
  Ok (Subscribe name.0 on, name.1)

-- ---- messages

abbrev pub fetched_from : ℕ → FixedText → Command
fetched_from first word.FlagsOnly = FetchFlags
fetched_from first word.ItemsWithModseq = FetchNew first true
fetched_from first _ = FetchNew first false

abbrev pub fetched_slice : ℕ → ℕ → FixedText → Command
fetched_slice first last word.ItemsWithModseq = FetchSlice first last true
fetched_slice first last _ = FetchSlice first last false

abbrev pub items_from : ℕ → Choice
items_from first = if first == 1 then choice.AllItems else choice.Items

unfoldable pub open_range_at : ℕ → List ℕ → Result (Command × List ℕ) NoCommand
open_range_at first b = do
  star ← fixed_at word.LastUid b
  items ← choice_at (items_from first) star.1
  Ok (fetched_from first items.0, items.1)

unfoldable pub closed_range_at : ℕ → List ℕ → Result (Command × List ℕ) NoCommand
closed_range_at first b = do
  last ← number_at follow.Space b
  items ← choice_at choice.Items last.1
  Ok (fetched_slice first (last.0).0 items.0, items.1)

unfoldable pub range_at : ℕ → List ℕ → Result (Command × List ℕ) NoCommand
range_at first b = if get_or b 0 0 == 42 then open_range_at first b else closed_range_at first b

unfoldable pub body_at : ℕ → List ℕ → Result (Command × List ℕ) NoCommand
body_at uid b = do
  end ← fixed_at word.Body b
  Ok (FetchBody uid, end.1)

-- by the octet behind the first UID
unfoldable pub fetched_at : ℕ → ℕ → List ℕ → Result (Command × List ℕ) NoCommand
fetched_at uid end b = if end == 58 then range_at uid b else body_at uid b

unfoldable pub fetch_at : List ℕ → Result (Command × List ℕ) NoCommand
fetch_at b = do
  uid ← number_at follow.ColonOrSpace b
  fetched_at (uid.0).0 (uid.0).1 uid.1

abbrev pub is_add : FixedText → Bool
is_add word.Add = true
is_add _ = false

unfoldable pub store_at : List ℕ → Result (Command × List ℕ) NoCommand
store_at b = do
  uid ← number_at follow.Space b
  change ← choice_at choice.Changes uid.1
  flags ← flags_at change.1
  end ← fixed_at word.LineEnd flags.1
  Ok (Store (uid.0).0 (is_add change.0) flags.0, end.1)

unfoldable pub move_at : List ℕ → Result (Command × List ℕ) NoCommand
move_at b = do
  uid ← number_at follow.Space b
  name ← last_name_at uid.1
  Ok (Move (uid.0).0 name.0, name.1)

unfoldable pub expunge_at : List ℕ → Result (Command × List ℕ) NoCommand
expunge_at b = do
  uid ← number_at follow.Line b
  end ← fixed_at word.LineFeed uid.1
  Ok (Expunge (uid.0).0, end.1)
