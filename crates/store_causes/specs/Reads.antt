-- Commands by which nothing changes at a store, and what a store takes of them.
use Rattle.std.specs.Prelude.{◌≡◌, ◌++◌, ◌+◌, ℕ, List, [], ◌∷◌, All}
use Rattle.std.specs.List.{flat_map}
use Rattle.gate_world.specs.declared.event.Event.{Event}
use Rattle.gate_world.specs.Octets.{store_took_in}
use Rattle.imap_types.specs.Commands.{command_text}
use Rattle.imap_types.specs.declared.command.Command.{Command}
use Rattle.imap_types.specs.declared.command.Command.TheVariants as command

-- It changes no message, no flag and no folder (RFC 9051 section 6). What is fetched is peeked, so no message becomes seen.
abbrev pub OnlyReads : Command → Type 0
OnlyReads command.Capability = Unit {0}
OnlyReads (command.Login user password) = Unit {0}
OnlyReads command.Enable = Unit {0}
OnlyReads (command.List special_use) = Unit {0}
OnlyReads (command.Select name known) = Unit {0}
OnlyReads command.FetchFlags = Unit {0}
OnlyReads (command.FetchSlice from to modseq) = Unit {0}
OnlyReads (command.FetchNew from modseq) = Unit {0}
OnlyReads _ = ⊥

-- the texts of these commands, numbered from n on
abbrev pub texts_of : ℕ → List Command → List ℕ
texts_of n [] = []
texts_of n (command ∷ commands) = command_text command n ++ texts_of (n + 1) commands

-- All that the store took in these events is a front of the texts of commands that only read, numbered from n on.
pub record TakesReads (n : ℕ) (events : List Event) : Type 0 where
  pub commands : List Command
  pub only : All OnlyReads commands
  pub unsent : List ℕ
  pub taken : flat_map store_took_in events ++ unsent ≡ texts_of n commands
