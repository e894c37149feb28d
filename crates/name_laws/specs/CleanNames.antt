-- Names without control characters: those of addresses, groups and parts of mail.
use Rattle.std.specs.Prelude.{ℕ, List, [], ◌∷◌, Option, Some, None}
use Rattle.text_words.specs.Cuts.{Each}
use Rattle.header_words.specs.EncodedWords.{is_printed}
use Rattle.header_addresses.specs.declared.address.Address.{Address}
use Rattle.header_addresses.specs.declared.address.Group.{Group}

-- no octet of the text is a control character
abbrev pub IsClean : List ℕ → Type 0
IsClean t = Each is_printed t

-- nor of the name, where there is one
abbrev pub IsCleanName : Option (List ℕ) → Type 0
IsCleanName None = Unit {0}
IsCleanName (Some name) = IsClean name

abbrev pub HaveCleanNames : List Address → Type 0
HaveCleanNames [] = Unit {0}
HaveCleanNames (a ∷ list) = IsCleanName a.name × HaveCleanNames list

-- the names of the groups and of their members
abbrev pub AreCleanGroups : List Group → Type 0
AreCleanGroups [] = Unit {0}
AreCleanGroups (g ∷ groups) = (IsCleanName g.name × HaveCleanNames g.members) × AreCleanGroups groups
