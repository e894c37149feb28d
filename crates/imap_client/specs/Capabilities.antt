-- What CAPABILITY tells (RFC 9051 sections 6.1.1 and 7.2.2).
use Rattle.std.specs.Prelude.{Bool, false, List, ℕ, codes}
use Rattle.std.specs.List.{list_any}
use Rattle.std.specs.Str.{str_eq_ignore_ascii_case}
use Rattle.imap_types.specs.declared.command.Command.{Command}
use Rattle.imap_types.specs.declared.command.Command.TheVariants as command
use Rattle.imap_types.specs.declared.response.Response.{Response}
use Rattle.imap_types.specs.declared.response.Response.TheVariants.{Capability}
use Rattle.told_folder.specs.declared.exchange.Exchange.{Exchange}

-- the word is among the capabilities that the response tells, in letters of either case (RFC 9051 section 9)
abbrev pub has_capability : List ℕ → Response → Bool
has_capability word (Capability words) = list_any (str_eq_ignore_ascii_case word) words
has_capability word _ = false

-- it is among those that a response of the exchange tells
abbrev pub tells : List ℕ → Exchange → Bool
tells word x = list_any (has_capability word) x.responses

-- Whether the store tells special-use attributes where they are asked (RFC 6154 section 2), by what it told before and in this exchange
-- of a command: what the last CAPABILITY told counts.
abbrev pub special_use_by : Command → Exchange → Bool → Bool
special_use_by command.Capability x before = tells (codes "SPECIAL-USE") x
special_use_by _ x before = before

abbrev pub special_use_after : Bool → Exchange → Bool
special_use_after before x = special_use_by x.command x before
