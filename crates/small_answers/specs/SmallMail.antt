-- What holds of the small store at every moment, and what a command must have to leave it so.
use Rattle.std.specs.Prelude.{◌≡◌, ◌^◌, ◌<◌, true, [], length, All, Some}
use Rattle.imap_types.specs.declared.command.Command.{Command}
use Rattle.imap_types.specs.declared.command.Command.TheVariants as command
use Rattle.imap_types.specs.Octets.{is_text}
use Rattle.imap_types.specs.Texts.{Each}
use Rattle.honest_store.specs.StoreMail.{StoreFolder, StoreMail}
use Rattle.honest_store.specs.WellFormed.{IsStoreMail}
use Rattle.honest_store.specs.Others.{OthersStep}
use Rattle.small_answers.specs.Changes.{hierarchy_delimiter}

-- with mod-sequences, the one delimiter, and a UIDNEXT that can be told
pub record IsSmallFolder (f : StoreFolder) : Type 0 where
  pub modseqs : f.has_modseqs ≡ true
  pub delimiter : f.delimiter ≡ Some hierarchy_delimiter
  pub uid_next : f.uid_next < 2 ^ 32

-- a store's mail of such folders, each with its UIDVALIDITY as its number, and no name that can't be selected
pub record IsSmallMail (mail : StoreMail) : Type 0 where
  pub well_formed : IsStoreMail mail
  pub folders : All IsSmallFolder mail.folders
  pub numbers : All (λ u. u.number ≡ u.validity) mail.uses
  pub all_selectable : mail.unselectable ≡ []

-- of what it would make the name is without octets 0, CR and LF, and the message can be counted
abbrev pub HasStorableParts : Command → Type 0
HasStorableParts (command.Create name) = Each is_text name
HasStorableParts (command.Rename from to) = Each is_text to
HasStorableParts (command.Append name flags date message) = length message < 2 ^ 63
HasStorableParts _ = Unit {0}

-- what the owner does: a step of others, to the small store's mail again
pub record IsOwnersStep (before after : StoreMail) : Type 0 where
  pub step : OthersStep before after
  pub small : IsSmallMail after
