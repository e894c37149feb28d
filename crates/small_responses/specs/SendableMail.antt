-- What must hold of the small store's mail, so that each of its responses has a spelling (RFC 9051 section 9).
use Rattle.std.specs.Prelude.{◌≡◌, ◌⊎◌, ℕ, ◌<◌, ◌≤◌, [], ◌∷◌, ◌++◌, List, length, codes, All, not, filter, bytes_eq}
use Rattle.imap_types.specs.declared.command.Command.{Command}
use Rattle.imap_types.specs.declared.command.Command.TheVariants as command
use Rattle.imap_types.specs.declared.response.Response.{Response}
use Rattle.imap_types.specs.declared.response.Response.TheVariants as response
use Rattle.imap_types.specs.Items.{AllNames}
use Rattle.honest_store.specs.StoreMail.{StoreMessage, StoreFolder, StoreMail}
use Rattle.honest_store.specs.Sessions.{StoreAnswer}
use Rattle.small_answers.specs.Limits.{text_limit, total_length}
use Rattle.small_answers.specs.OwnersCalls.{seen_flag}

abbrev pub AreOctets : List ℕ → Type 0
AreOctets t = All (λ c. c < 256) t

-- the flags but `\seen`, which the owner may set beside flags that are at their limit
abbrev pub beside_seen : List (List ℕ) → List (List ℕ)
beside_seen flags = filter (λ f. not (bytes_eq f seen_flag)) flags

pub record IsSendableMessage (m : StoreMessage) : Type 0 where
  pub flags : AllNames m.flags
  pub few : total_length (beside_seen m.flags) ≤ text_limit
  pub octets : AreOctets m.octets

-- it is subscribed or not, and has no other attribute
pub record IsSendableFolder (f : StoreFolder) : Type 0 where
  pub name : length f.name ≤ text_limit
  pub attributes : (f.attributes ≡ []) ⊎ (f.attributes ≡ codes "\\subscribed" ∷ [])
  pub messages : All IsSendableMessage f.messages

abbrev pub IsSendableMail : StoreMail → Type 0
IsSendableMail mail = All IsSendableFolder mail.folders

-- each flag is a name, and a message is made of octets
abbrev pub HasSendableParts : Command → Type 0
HasSendableParts (command.Store uid add flags) = AllNames flags
HasSendableParts (command.Append name flags date message) = AllNames flags × AreOctets message
HasSendableParts _ = Unit {0}

-- all that is sent of an answer, by the tag of its command
abbrev pub sent_responses : List ℕ → StoreAnswer → List Response
sent_responses tag a = a.responses ++ response.Tagged tag a.status a.code ∷ []
