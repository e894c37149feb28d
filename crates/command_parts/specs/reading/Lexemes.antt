-- What an octet does to each lexeme.
use Rattle.std.specs.Prelude.{ℕ, ◌+◌, ◌-◌, ◌*◌, Bool, true, false, ◌&&◌, ◌||◌, nat_lt, nat_le, ◌==◌, if◌then◌else◌, List, Option, Some, None}
use Rattle.std.specs.Prelude.{Result, Ok, min, take}
use Rattle.command_parts.specs.declared.no_command.NoCommand.{NoCommand}
use Rattle.command_parts.specs.declared.lexeme.LexemeStep.{LexemeStep}
use Rattle.command_parts.specs.declared.lexeme.LexemeStep.TheVariants.{Fail, On, End}
use Rattle.command_parts.specs.declared.follow.Follow.{Follow}
use Rattle.command_parts.specs.declared.follow.Follow.TheVariants as follow
use Rattle.command_parts.specs.declared.tag.TagOctets.{TagOctets}
use Rattle.command_parts.specs.declared.numeral.Numeral.{Numeral}
use Rattle.command_parts.specs.declared.string.TextPlace.{TextPlace}
use Rattle.command_parts.specs.declared.string.TextPlace.TheVariants as place
use Rattle.command_parts.specs.declared.string.StringText.{StringText}
use Rattle.command_parts.specs.declared.literal.LiteralHead.{LiteralHead}
use Rattle.command_parts.specs.declared.literal.LiteralHead.TheVariants as head
use Rattle.command_parts.specs.declared.flags.Flags.{Flags}
use Rattle.command_parts.specs.declared.flags.Flags.TheVariants as flags
use Rattle.command_parts.specs.declared.date.DatePart.{DatePart}
use Rattle.command_parts.specs.declared.date.DatePart.TheVariants as part
use Rattle.imap_types.specs.Octets.{is_digit, is_alnum, is_text, is_atom}
use Rattle.imap_types.specs.Texts.{literal_limit}
use Rattle.command_parts.specs.reading.Steps.{◌>>=◌, read_from}

abbrev pub may_follow : Follow → ℕ → Bool
may_follow follow.Space c = c == 32
may_follow follow.Line c = c == 13
may_follow follow.SpaceOrLine c = c == 32 || c == 13
may_follow follow.ColonOrSpace c = c == 58 || c == 32
may_follow follow.Close c = c == 41

-- ---- tags

abbrev pub tag_advance : TagOctets → ℕ → LexemeStep TagOctets
tag_advance tag c =
    if is_alnum c then (if nat_lt tag.count 32 then On (record { count = tag.count + 1 }) else Fail)
    else if c == 32 && nat_lt 0 tag.count then End tag else Fail

unfoldable pub tag_at : List ℕ → Result (List ℕ × List ℕ) NoCommand
tag_at b = do
  tag ← read_from tag_advance (record { count = 0 }) b
  Ok (take (tag.0).count b, tag.1)

-- ---- numbers

abbrev pub within : ℕ → ℕ → Option ℕ
within n most = if nat_le n most then Some n else None

abbrev pub with_digit : Option ℕ → ℕ → ℕ → Option ℕ
with_digit None digit most = within digit most
with_digit (Some n) digit most = if n == 0 then None else within (10 * n + digit) most

abbrev pub is_begun : Option ℕ → Bool
is_begun None = false
is_begun (Some n) = true

abbrev pub numeral_ended : Numeral → ℕ → LexemeStep Numeral
numeral_ended n c = if is_begun n.value && may_follow n.follow c then End (record n { end = c }) else Fail

abbrev pub numeral_on : Numeral → Option ℕ → LexemeStep Numeral
numeral_on n None = Fail
numeral_on n (Some v) = On (record n { value = Some v })

abbrev pub numeral_advance : Numeral → ℕ → LexemeStep Numeral
numeral_advance n c = if is_digit c then numeral_on n (with_digit n.value (c - 48) n.most) else numeral_ended n c

abbrev pub value_or_zero : Option ℕ → ℕ
value_or_zero None = 0
value_or_zero (Some n) = n

unfoldable pub numeral_at : ℕ → Follow → List ℕ → Result ((ℕ × ℕ) × List ℕ) NoCommand
numeral_at most f b = do
  n ← read_from numeral_advance (record { most = most; follow = f; value = None; end = 0 }) b
  Ok ((value_or_zero (n.0).value, (n.0).end), n.1)

-- up to 2^32 - 1
unfoldable pub number_at : Follow → List ℕ → Result ((ℕ × ℕ) × List ℕ) NoCommand
number_at f b = do
  n ← numeral_at 4294967295 f b
  Ok ((min (n.0).0 4294967295, (n.0).1), n.1)

-- ---- atoms and quoted texts

abbrev pub text_on : StringText → TextPlace → LexemeStep StringText
text_on text p = On (record text { place = p })

abbrev pub text_ended : StringText → ℕ → LexemeStep StringText
text_ended text c = if may_follow text.follow c then End (record text { end = c }) else Fail

abbrev pub text_start : StringText → ℕ → LexemeStep StringText
text_start text c = if c == 34 then text_on text place.Quoted else if is_atom c then text_on text place.Atom else Fail

abbrev pub text_atom : StringText → ℕ → LexemeStep StringText
text_atom text c = if is_atom c then text_on text place.Atom else text_ended text c

abbrev pub text_quoted : StringText → ℕ → LexemeStep StringText
text_quoted text c =
    if c == 34 then text_on text place.Closed
    else if c == 92 then text_on text place.Escaped
    else if is_text c then text_on text place.Quoted else Fail

abbrev pub text_escaped : StringText → ℕ → LexemeStep StringText
text_escaped text c = if c == 34 || c == 92 then text_on text place.Quoted else Fail

abbrev pub text_advance_at : TextPlace → StringText → ℕ → LexemeStep StringText
text_advance_at place.Start text c = text_start text c
text_advance_at place.Atom text c = text_atom text c
text_advance_at place.Quoted text c = text_quoted text c
text_advance_at place.Escaped text c = text_escaped text c
text_advance_at place.Closed text c = text_ended text c

abbrev pub text_advance : StringText → ℕ → LexemeStep StringText
text_advance text c = text_advance_at text.place text c

-- ---- heads of literals

abbrev pub head_digits : ℕ → ℕ → ℕ → LexemeStep LiteralHead
head_digits value count c =
    if is_digit c then
    (if nat_lt count 8 && nat_le (10 * value + (c - 48)) literal_limit then On (head.Digits (10 * value + (c - 48)) (count + 1)) else Fail)
    else if c == 125 && nat_lt 0 count then On (head.Closed value) else Fail

abbrev pub head_advance : LiteralHead → ℕ → LexemeStep LiteralHead
head_advance (head.Digits value count) c = head_digits value count c
head_advance (head.Closed value) c = if c == 13 then On (head.Line value) else Fail
head_advance (head.Line value) c = if c == 10 then End (head.Line value) else Fail

abbrev pub count_of : LiteralHead → ℕ
count_of (head.Digits value count) = value
count_of (head.Closed value) = value
count_of (head.Line value) = value

-- ---- flags

abbrev pub flags_advance : Flags → ℕ → LexemeStep Flags
flags_advance flags.First c =
    if c == 41 then End flags.First else if c == 92 then On flags.Atom else if is_atom c then On flags.Rest else Fail
flags_advance flags.Next c = if c == 92 then On flags.Atom else if is_atom c then On flags.Rest else Fail
flags_advance flags.Atom c = if is_atom c then On flags.Rest else Fail
flags_advance flags.Rest c =
    if c == 41 then End flags.Rest else if c == 32 then On flags.Next else if is_atom c then On flags.Rest else Fail

-- ---- dates

abbrev pub in_day : ℕ → ℕ → Bool
in_day at c = if at == 0 then c == 34 else if at == 1 then c == 32 || is_digit c else if at == 3 then c == 45 else is_digit c

abbrev pub in_time : ℕ → ℕ → Bool
in_time at c =
    if at == 4 || at == 13 then c == 32
    else if at == 7 || at == 10 then c == 58
    else if at == 14 then c == 43 || c == 45
    else if at == 19 then c == 34 else is_digit c

abbrev pub date_advance : DatePart → ℕ → LexemeStep DatePart
date_advance (part.Day at) c = if in_day at c then (if nat_lt at 3 then On (part.Day (at + 1)) else End (part.Day at)) else Fail
date_advance (part.Time at) c = if in_time at c then (if nat_lt at 19 then On (part.Time (at + 1)) else End (part.Time at)) else Fail
