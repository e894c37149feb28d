-- Messages whose bodies are shown.
use Rattle.std.specs.Prelude.{ℕ, List, Option}
use Rattle.std.specs.Option.{option_copied}
use Rattle.body_parts.specs.declared.message.ParsedMessage.{ParsedMessage}

-- The octets of a message, which may be any, and their blob id. Without one the parts have no ids.
pub record MessageData : Type 0 where
  pub octets : List ℕ
  pub id : Option (List ℕ)

-- what the code's message is
abbrev pub message_data : ParsedMessage → MessageData
message_data m = record { octets = m.octets.now; id = option_copied m.id }
