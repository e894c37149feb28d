-- Which names a Mailbox can have, whatever its siblings have (RFC 8621 section 2).
use Rattle.std.specs.Prelude.{ℕ, ◌==◌, ◌&&◌, nat_lt, nat_le, Bool, false, not, List, [], ◌∷◌, length, codes, Option, Some, None}
use Rattle.std.specs.Char.{is_ascii_control}
use Rattle.std.specs.List.{list_any}
use Rattle.std.specs.Str.{str_eq_ignore_ascii_case}
use Rattle.told_folder.specs.declared.message.Folder.{Folder}
use Rattle.mailbox_names.specs.declared.fit_names.TheConstants.{MAX_NAME_OCTETS}

abbrev pub has_delimiter : Option ℕ → List ℕ → Bool
has_delimiter None name = false
has_delimiter (Some d) name = list_any (λ c. c == d) name

-- 1 to 255 octets, no control character and not the delimiter
abbrev pub is_fit_name : Option ℕ → List ℕ → Bool
is_fit_name delimiter name =
    nat_lt 0 (length name) && nat_le (length name) MAX_NAME_OCTETS && not (list_any is_ascii_control name) && not (has_delimiter delimiter name)

abbrev pub first_delimiter : List Folder → Option ℕ
first_delimiter [] = None
first_delimiter (f ∷ fs) = f.delimiter

-- that of the parent; at the top level that of the folder with the lowest number
abbrev pub delimiter_under : List Folder → Option Folder → Option ℕ
delimiter_under fs None = first_delimiter fs
delimiter_under fs (Some parent) = parent.delimiter

-- INBOX at the top level, in letters of any case, which is there always (RFC 9051 section 5.1)
abbrev pub is_inbox : Option Folder → List ℕ → Bool
is_inbox None name = str_eq_ignore_ascii_case (codes "INBOX") name
is_inbox (Some parent) name = false

-- a Mailbox under this parent can have the name, where no sibling has it
abbrev pub can_be_named : List Folder → Option Folder → List ℕ → Bool
can_be_named fs parent name = is_fit_name (delimiter_under fs parent) name && not (is_inbox parent name)
