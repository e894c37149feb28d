-- Values in filters: ids, numbers, dates and keywords.
use Rattle.std.specs.Prelude.{ℕ, ◌^◌, ◌==◌, ◌&&◌, nat_lt, if◌then◌else◌, ℤ}
use Rattle.std.specs.Prelude.{List, [], ◌∷◌, map, bytes_eq, decimal, Option, Some, None, option_and_then}
use Rattle.std.specs.Char.{to_ascii_lowercase}
use Rattle.std.specs.BTreeSet.{BTreeSet}
use Rattle.std.specs.List.{filter_map}
use Rattle.std.specs.Str.Parse.{digits_value}
use Rattle.mail_maps.specs.Threads.{distinct}
use Rattle.serde_json.specs.Data.{Data}
use Rattle.serde_json.specs.Find.{as_str, as_array, as_number}
use Rattle.email_properties.specs.Kinds.{at_least_zero}
use Rattle.jmap_values.specs.Dates.{first_second_from}
use Rattle.jmap_values.specs.Keywords.{is_keyword}
use Rattle.jmap_arguments.specs.Arguments.{texts_in, whole_in}
use Rattle.jmap_arguments.specs.Ids.{mailbox_letter}

-- ---- ids

-- the number below 2^64 that is written so
abbrev pub number_written : List ℕ → Option ℕ
number_written digits =
    if bytes_eq (decimal (digits_value 10 digits)) digits && nat_lt (digits_value 10 digits) (2 ^ 64) then Some (digits_value 10 digits) else None

-- the number whose id this is
abbrev pub number_of_id : ℕ → List ℕ → Option ℕ
number_of_id letter [] = None
number_of_id letter (c ∷ digits) = if c == letter then number_written digits else None

-- the numbers of Mailboxes whose ids are among these
abbrev pub numbers_of_ids : List (List ℕ) → List ℕ
numbers_of_ids ids = filter_map (number_of_id mailbox_letter) ids

-- as a set
abbrev pub mailboxes_of_ids : List (List ℕ) → BTreeSet ℕ
mailboxes_of_ids ids = record { keys = distinct (numbers_of_ids ids) }

-- ---- texts

-- a list of texts
abbrev pub list_of_texts : Data → Option (List (List ℕ))
list_of_texts d = option_and_then texts_in (as_array d)

-- ---- numbers

-- an integer from -(2^53 - 1) to 2^53 - 1
abbrev pub integer_of : Data → Option ℤ
integer_of d = option_and_then whole_in (as_number d)

-- one from 0 on
abbrev pub natural_of : Data → Option ℕ
natural_of d = option_and_then at_least_zero (integer_of d)

-- ---- dates

-- the first whole second from a date in UTC on (RFC 8620 section 1.4)
abbrev pub second_from : Data → Option ℤ
second_from d = option_and_then first_second_from (as_str d)

-- ---- keywords

-- in lower case
abbrev pub keyword_in : List ℕ → Option (List ℕ)
keyword_in t = if is_keyword t then Some (map to_ascii_lowercase t) else None

abbrev pub keyword_given : Data → Option (List ℕ)
keyword_given d = option_and_then keyword_in (as_str d)
