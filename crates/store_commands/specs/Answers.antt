-- What octets are that a client sends: a command, the front of one, or neither.
use Rattle.std.specs.Prelude.{◌≡◌, ◌≢◌, ℕ, ◌+◌, ◌<◌, ◌≤◌, List, [], ◌++◌, length, take}
use Rattle.imap_types.specs.declared.command.Command.{Command}
use Rattle.imap_types.specs.Texts.{plain_octets}
use Rattle.command_parts.specs.Fields.{EndsWithHead}
use Rattle.store_commands.specs.declared.command_read.CommandRead.{CommandRead}
use Rattle.store_commands.specs.declared.command_read.CommandRead.TheVariants.{Whole, NeedMore, WantsLiteral, Bad}
use Rattle.store_commands.specs.Requests.{IsCommandText}

-- the octets are a spelling of the command under the tag
pub record IsCommand (tag : List ℕ) (command : Command) (b : List ℕ) : Type 0 where
  pub text : List ℕ
  pub reads : IsCommandText tag command text
  pub octets : plain_octets text ≡ b

-- the octets begin a command, or are one
pub record IsCommandPrefix (b : List ℕ) : Type 0 where
  pub tag : List ℕ
  pub command : Command
  pub text : List ℕ
  pub more : List ℕ
  pub reads : IsCommandText tag command (text ++ more)
  pub octets : plain_octets text ≡ b

-- the octets begin a command and are none
pub record IsProperCommandPrefix (b : List ℕ) : Type 0 where
  pub tag : List ℕ
  pub command : Command
  pub text : List ℕ
  pub more : List ℕ
  pub reads : IsCommandText tag command (text ++ more)
  pub octets : plain_octets text ≡ b
  pub proper : more ≢ []

-- the first octets are a command; the octets begin one, without or with the head of a literal at their end; no command begins with
-- the first at + 1, and one does with the first at
abbrev pub IsReadAs : List ℕ → CommandRead → Type 0
IsReadAs b (Whole count tag command) = (count ≤ length b) × IsCommand tag command (take count b)
IsReadAs b NeedMore = (front : IsProperCommandPrefix b) × (EndsWithHead front.text → ⊥)
IsReadAs b WantsLiteral = (front : IsProperCommandPrefix b) × EndsWithHead front.text
IsReadAs b (Bad at) = (at < length b) × (IsCommandPrefix (take (at + 1) b) → ⊥) × IsProperCommandPrefix (take at b)

-- a command stands at the front of the octets
abbrev pub BeginsWithCommand : List ℕ → Type 0
BeginsWithCommand b = (count : ℕ) × (tag : List ℕ) × (command : Command) × IsReadAs b (Whole count tag command)

-- octets that come later don't change it
abbrev pub IsFinal : CommandRead → Type 0
IsFinal (Whole count tag command) = Unit {0}
IsFinal NeedMore = ⊥
IsFinal WantsLiteral = ⊥
IsFinal (Bad at) = Unit {0}
