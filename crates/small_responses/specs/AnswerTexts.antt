-- The octets of an answer (RFC 9051 sections 2.2.2 and 7).
use Rattle.std.specs.Prelude.{ℕ, List}
use Rattle.std.specs.List.{flat_map}
use Rattle.honest_store.specs.Sessions.{StoreAnswer}
use Rattle.store_responses.specs.ResponseTexts.{text_of_response}
use Rattle.small_responses.specs.SendableMail.{sent_responses}

-- the untagged responses in order, and then the tagged one
abbrev pub text_of_answer : List ℕ → StoreAnswer → List ℕ
text_of_answer tag a = flat_map text_of_response (sent_responses tag a)
