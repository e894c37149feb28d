-- Names, users and passwords, literals, flags and dates.
use Rattle.std.specs.Prelude.{ℕ, ◌+◌, ◌-◌, nat_le, ◌==◌, if◌then◌else◌, List, length, take, drop, get_or, Result, Ok, Err, ℤ}
use Rattle.command_parts.specs.declared.no_command.NoCommand.{NoCommand}
use Rattle.command_parts.specs.declared.no_command.NoCommand.TheVariants.{NeedMore, WantsLiteral, Bad}
use Rattle.command_parts.specs.declared.follow.Follow.{Follow}
use Rattle.command_parts.specs.declared.follow.Follow.TheVariants as follow
use Rattle.command_parts.specs.declared.string.TextPlace.TheVariants as place
use Rattle.command_parts.specs.declared.string.StringText.{StringText}
use Rattle.command_parts.specs.declared.string.Credential.{Credential}
use Rattle.command_parts.specs.declared.string.Credential.TheVariants as credential
use Rattle.command_parts.specs.declared.literal.LiteralHead.TheVariants as head
use Rattle.command_parts.specs.declared.flags.Flags.TheVariants as flags
use Rattle.command_parts.specs.declared.date.DatePart.{DatePart}
use Rattle.command_parts.specs.declared.date.DatePart.TheVariants as part
use Rattle.command_parts.specs.declared.fixed_text.FixedText.TheVariants as word
use Rattle.command_parts.specs.declared.fixed_text.Choice.TheVariants as choice
use Rattle.imap_values.specs.Strings.{astring_in}
use Rattle.imap_values.specs.Spans as spans
use Rattle.imap_values.specs.Dates as dates
use Rattle.command_parts.specs.reading.Steps.{◌>>=◌, read_from}
use Rattle.command_parts.specs.reading.Lexemes.{may_follow, text_advance, head_advance, count_of, flags_advance, date_advance}
use Rattle.command_parts.specs.reading.FixedTexts.{choice_at, fixed_at}

abbrev pub text_before : Follow → StringText
text_before f = record { follow = f; place = place.Start; end = 0 }

-- a name and the octet that follows it
unfoldable pub name_at : Follow → List ℕ → Result ((List ℕ × ℕ) × List ℕ) NoCommand
name_at f b = do
  text ← read_from text_advance (text_before f) b
  Ok (((astring_in b).0, (text.0).end), text.1)

-- a folder's name, and the line's end
unfoldable pub last_name_at : List ℕ → Result (List ℕ × List ℕ) NoCommand
last_name_at b = do
  name ← name_at follow.Line b
  end ← fixed_at word.LineFeed name.1
  Ok ((name.0).0, end.1)

-- so many octets and one that may follow them
abbrev pub octets_at : ℕ → Follow → List ℕ → Result (List ℕ × List ℕ) NoCommand
octets_at count f b =
    if length b == 0 then Err WantsLiteral
    else if nat_le (length b) count then Err NeedMore
    else if may_follow f (get_or b count 0) then Ok (take count b, drop (count + 1) b)
    else Err (Bad (length b - count))

-- a literal from behind its opening brace on
unfoldable pub literal_at : Follow → List ℕ → Result (List ℕ × List ℕ) NoCommand
literal_at f b = do
  count ← read_from head_advance (head.Digits 0 0) b
  octets_at (count_of count.0) f count.1

-- a user or a password, by what was read of it
abbrev pub credential_of : Credential → List ℕ
credential_of (credential.Text bytes) = (astring_in bytes.now).0
credential_of (credential.Literal octets) = octets.now

unfoldable pub credential_text_at : Follow → List ℕ → Result (List ℕ × List ℕ) NoCommand
credential_text_at f b = do
  name ← name_at f b
  Ok ((name.0).0, name.1)

unfoldable pub credential_literal_at : Follow → List ℕ → Result (List ℕ × List ℕ) NoCommand
credential_literal_at f b = do
  brace ← fixed_at word.Brace b
  literal_at f brace.1

unfoldable pub credential_at : Follow → List ℕ → Result (List ℕ × List ℕ) NoCommand
credential_at f b = if get_or b 0 0 == 123 then credential_literal_at f b else credential_text_at f b

-- from behind the opening bracket on
unfoldable pub flags_at : List ℕ → Result (List (List ℕ) × List ℕ) NoCommand
flags_at b = do
  read ← read_from flags_advance flags.First b
  Ok ((spans.flags_in b).0, read.1)

-- from the quote on
unfoldable pub date_octets_at : List ℕ → Result (DatePart × List ℕ) NoCommand
date_octets_at b = do
  day ← read_from date_advance (part.Day 0) b
  month ← choice_at choice.Months day.1
  read_from date_advance (part.Time 0) month.1

unfoldable pub date_at : List ℕ → Result (ℤ × List ℕ) NoCommand
date_at b = do
  time ← date_octets_at b
  Ok (dates.date_in b, time.1)
