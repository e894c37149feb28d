-- The texts of commands (RFC 9051 section 6, RFC 6154 section 2, RFC 7162 section 3.2).
use Rattle.std.specs.Prelude.{ℕ, ℤ, Bool, ◌&&◌, nat_le, if◌then◌else◌, List, [], ◌∷◌, ◌++◌, length, codes, Option, Some, None, bytes_eq}
use Rattle.std.specs.List.{list_all}
use Rattle.std.specs.Fmt.{decimal}
use Rattle.imap_types.specs.declared.command.Command.{Command}
use Rattle.imap_types.specs.declared.command.Command.TheVariants.{Capability, Login, Enable, List as ListFolders, Select, Unselect, FetchFlags, FetchSlice}
use Rattle.imap_types.specs.declared.command.Command.TheVariants.{FetchNew, FetchBody, Store, Move, Expunge, Append, Create, Delete, Rename, Subscribe}
use Rattle.imap_types.specs.Texts.{crlf}
pub use Rattle.imap_types.specs.Strings.{escaped, quoted}
use Rattle.imap_types.specs.Dates.{date_text}

abbrev pub tag_of : ℕ → List ℕ
tag_of n = 97 ∷ decimal n

-- ---- flags

-- a system flag as it is written; other flags stay as they are
abbrev pub flag_text : List ℕ → List ℕ
flag_text f =
    if bytes_eq f (codes "\\seen") then codes "\\Seen"
    else if bytes_eq f (codes "\\answered") then codes "\\Answered"
    else if bytes_eq f (codes "\\flagged") then codes "\\Flagged"
    else if bytes_eq f (codes "\\draft") then codes "\\Draft"
    else if bytes_eq f (codes "\\deleted") then codes "\\Deleted"
    else f

-- a space before each
abbrev pub more_flags : List (List ℕ) → List ℕ
more_flags [] = []
more_flags (f ∷ fs) = 32 ∷ flag_text f ++ more_flags fs

-- a space between two
abbrev pub flags_inside : List (List ℕ) → List ℕ
flags_inside [] = []
flags_inside (f ∷ fs) = flag_text f ++ more_flags fs

abbrev pub flags_text : List (List ℕ) → List ℕ
flags_text fs = 40 ∷ flags_inside fs ++ 41 ∷ []

-- ---- words

-- what a header fetch asks for
abbrev pub header_items : Bool → List ℕ
header_items modseq =
    if modseq then codes " (UID FLAGS MODSEQ INTERNALDATE RFC822.SIZE BODY.PEEK[HEADER]<0.32768>)"
    else codes " (UID FLAGS INTERNALDATE RFC822.SIZE BODY.PEEK[HEADER]<0.32768>)"

abbrev pub known_text : Option (ℕ × ℕ) → List ℕ
known_text None = []
known_text (Some known) = codes " (QRESYNC (" ++ decimal known.0 ++ 32 ∷ decimal known.1 ++ codes "))"

-- A part of a command's text: octets as they are, or a literal, whose octets go after a continuation (RFC 9051
-- section 4.3).
pub data Part : Type 0 where
  Plain : List ℕ → Part
  Literal : List ℕ → Part

-- an octet that may stand in a quoted user or password
abbrev pub is_printable : ℕ → Bool
is_printable c = nat_le 32 c && nat_le c 126

-- a user or a password
abbrev pub credential : List ℕ → Part
credential t = if list_all is_printable t then Plain (quoted t) else Literal t

-- every folder, and whether it is subscribed; where it is so, its special-use attributes too (RFC 6154 section 2)
abbrev pub list_words : Bool → List ℕ
list_words special_use =
    if special_use then codes "LIST \"\" \"*\" RETURN (SUBSCRIBED SPECIAL-USE)"
    else codes "LIST \"\" \"*\" RETURN (SUBSCRIBED)"

abbrev pub select_words : List ℕ → Option (ℕ × ℕ) → List ℕ
select_words name known = codes "SELECT " ++ quoted name ++ known_text known

abbrev pub fetch_slice_words : ℕ → ℕ → Bool → List ℕ
fetch_slice_words from to modseq = codes "UID FETCH " ++ decimal from ++ 58 ∷ decimal to ++ header_items modseq

abbrev pub fetch_new_words : ℕ → Bool → List ℕ
fetch_new_words from modseq = codes "UID FETCH " ++ decimal from ++ codes ":*" ++ header_items modseq

abbrev pub fetch_body_words : ℕ → List ℕ
fetch_body_words uid = codes "UID FETCH " ++ decimal uid ++ codes " (UID BODY.PEEK[]<0.50000000>)"

abbrev pub store_words : ℕ → Bool → List (List ℕ) → List ℕ
store_words uid add flags = codes "UID STORE " ++ decimal uid ++ (if add then codes " +FLAGS " else codes " -FLAGS ") ++ flags_text flags

abbrev pub move_words : ℕ → List ℕ → List ℕ
move_words uid name = codes "UID MOVE " ++ decimal uid ++ 32 ∷ quoted name

abbrev pub expunge_words : ℕ → List ℕ
expunge_words uid = codes "UID EXPUNGE " ++ decimal uid

abbrev pub append_words : List ℕ → List (List ℕ) → ℤ → List ℕ
append_words name flags date = codes "APPEND " ++ quoted name ++ 32 ∷ flags_text flags ++ 32 ∷ date_text date ++ 32 ∷ []

abbrev pub rename_words : List ℕ → List ℕ → List ℕ
rename_words from to = codes "RENAME " ++ quoted from ++ 32 ∷ quoted to

abbrev pub subscribe_words : List ℕ → Bool → List ℕ
subscribe_words name on = (if on then codes "SUBSCRIBE " else codes "UNSUBSCRIBE ") ++ quoted name

-- what follows the tag and its space, in a command without literals
abbrev pub words_of : Command → List ℕ
words_of Capability = codes "CAPABILITY"
words_of (Login user password) = []
words_of Enable = codes "ENABLE QRESYNC IMAP4rev2"
words_of (ListFolders special_use) = list_words special_use
words_of (Select name known) = select_words name known
words_of Unselect = codes "UNSELECT"
words_of FetchFlags = codes "UID FETCH 1:* (UID FLAGS)"
words_of (FetchSlice from to modseq) = fetch_slice_words from to modseq
words_of (FetchNew from modseq) = fetch_new_words from modseq
words_of (FetchBody uid) = fetch_body_words uid
words_of (Store uid add flags) = store_words uid add flags
words_of (Move uid name) = move_words uid name
words_of (Expunge uid) = expunge_words uid
words_of (Append name flags date message) = []
words_of (Create name) = codes "CREATE " ++ quoted name
words_of (Delete name) = codes "DELETE " ++ quoted name
words_of (Rename from to) = rename_words from to
words_of (Subscribe name on) = subscribe_words name on

abbrev pub parts_of : Command → List Part
parts_of (Login user password) = Plain (codes "LOGIN ") ∷ credential user ∷ Plain (32 ∷ []) ∷ credential password ∷ []
parts_of (Append name flags date message) = Plain (append_words name flags date) ∷ Literal message ∷ []
parts_of command = Plain (words_of command) ∷ []

-- ---- pieces

-- `{n}` CRLF
abbrev pub literal_head : List ℕ → List ℕ
literal_head t = 123 ∷ decimal (length t) ++ 125 ∷ crlf

-- the octets before the first piece
abbrev pub put_before : List ℕ → List (List ℕ) → List (List ℕ)
put_before t [] = t ∷ []
put_before t (p ∷ ps) = (t ++ p) ∷ ps

-- the pieces in which the parts and the line's end are sent, each but the first after a continuation
abbrev pub pieces_of : List Part → List (List ℕ)
pieces_of [] = crlf ∷ []
pieces_of (Plain t ∷ parts) = put_before t (pieces_of parts)
pieces_of (Literal t ∷ parts) = literal_head t ∷ put_before t (pieces_of parts)

abbrev pub command_pieces : Command → ℕ → List (List ℕ)
command_pieces command tag = put_before (tag_of tag ++ 32 ∷ []) (pieces_of (parts_of command))

abbrev pub joined_pieces : List (List ℕ) → List ℕ
joined_pieces [] = []
joined_pieces (p ∷ ps) = p ++ joined_pieces ps

-- the whole text: the pieces, one after another
abbrev pub command_text : Command → ℕ → List ℕ
command_text command tag = joined_pieces (command_pieces command tag)
