-- Commands that a store reads as they are sent, and what it reads: numbers are within their type, names have no octet 0, CR or LF, flags are names in
-- kept form, and literals are within their limit.
use Rattle.std.specs.Prelude.{◌≡◌, ◌⊎◌, ℕ, ◌≤◌, true, List, length, Option, Some, None}
use Rattle.std.specs.List.{list_all}
use Rattle.imap_types.specs.declared.command.Command.{Command}
use Rattle.imap_types.specs.declared.command.Command.TheVariants.{Capability, Login, Enable, List as ListFolders, Select, Unselect, FetchFlags, FetchSlice}
use Rattle.imap_types.specs.declared.command.Command.TheVariants.{FetchNew, FetchBody, Store, Move, Expunge, Append, Create, Delete, Rename, Subscribe}
use Rattle.imap_types.specs.Octets.{is_text}
use Rattle.imap_types.specs.Texts.{Each, literal_limit}
use Rattle.imap_types.specs.Items.{AllNames, kept}
use Rattle.imap_types.specs.Commands.{is_printable}
use Rattle.honest_store.specs.WellFormed.{nearest_date}
use Rattle.command_parts.specs.Fields.{AreOctets, greatest_unsigned, greatest_modseq}

abbrev pub IsPlainName : List ℕ → Type 0
IsPlainName name = Each is_text name

-- a literal's octets
abbrev pub IsLiteralString : List ℕ → Type 0
IsLiteralString s = AreOctets s × (length s ≤ literal_limit)

-- a user or a password, which is sent quoted where it is printable
abbrev pub IsPlainCredential : List ℕ → Type 0
IsPlainCredential s = (list_all is_printable s ≡ true) ⊎ IsLiteralString s

abbrev pub AreKeptFlags : List (List ℕ) → Type 0
AreKeptFlags flags = AllNames flags × (kept flags ≡ flags)

abbrev pub IsKnownWithin : Option (ℕ × ℕ) → Type 0
IsKnownWithin None = Unit {0}
IsKnownWithin (Some known) = (known.0 ≤ greatest_unsigned) × (known.1 ≤ greatest_modseq)

abbrev pub IsReadable : Command → Type 0
IsReadable Capability = Unit {0}
IsReadable (Login user password) = IsPlainCredential user × IsPlainCredential password
IsReadable Enable = Unit {0}
IsReadable (ListFolders special_use) = Unit {0}
IsReadable (Select name known) = IsPlainName name × IsKnownWithin known
IsReadable Unselect = Unit {0}
IsReadable FetchFlags = Unit {0}
IsReadable (FetchSlice from to modseq) = (from ≤ greatest_unsigned) × (to ≤ greatest_unsigned)
IsReadable (FetchNew from modseq) = from ≤ greatest_unsigned
IsReadable (FetchBody uid) = uid ≤ greatest_unsigned
IsReadable (Store uid add flags) = (uid ≤ greatest_unsigned) × AreKeptFlags flags
IsReadable (Move uid name) = (uid ≤ greatest_unsigned) × IsPlainName name
IsReadable (Expunge uid) = uid ≤ greatest_unsigned
IsReadable (Append name flags date message) = IsPlainName name × AreKeptFlags flags × IsLiteralString message
IsReadable (Create name) = IsPlainName name
IsReadable (Delete name) = IsPlainName name
IsReadable (Rename from to) = IsPlainName from × IsPlainName to
IsReadable (Subscribe name on) = IsPlainName name

-- the command as it is sent: the date of an APPEND is the nearest second of the years 0 to 9999
abbrev pub as_sent : Command → Command
as_sent (Append name flags date message) = Append name flags (nearest_date date) message
as_sent command = command

-- what a store may be asked
abbrev pub IsAskable : Command → Type 0
IsAskable (Login user password) = AreOctets user × AreOctets password
IsAskable (Append name flags date message) = IsPlainName name × AreKeptFlags flags × (nearest_date date ≡ date) × IsLiteralString message
IsAskable command = IsReadable command
