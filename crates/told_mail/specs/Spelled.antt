-- Exchanges whose responses a store's octets spell.
use Rattle.std.specs.Prelude.{ℕ, ◌≤◌, List}
use Rattle.std.specs.List.{AllByRecursion}
use Rattle.imap_types.specs.Spells.{IsSpelling}
use Rattle.imap_types.specs.declared.command.Command.{Command}
use Rattle.imap_types.specs.declared.command.Command.TheVariants as command
use Rattle.imap_types.specs.declared.response.Response.{Response}

-- some octets are a spelling of the response
abbrev pub IsSpelled : Response → Type 0
IsSpelled r = (b : List ℕ) × IsSpelling r b

abbrev pub AllSpelled : List Response → Type 0
AllSpelled rs = AllByRecursion IsSpelled rs

-- a slice ends at a UID
abbrev pub FitsSlice : Command → Type 0
FitsSlice (command.FetchSlice from to modseq) = to ≤ 4294967295
FitsSlice _ = Unit {0}
