-- A session over a store, and an answer in it (RFC 9051 sections 2.2.2 and 3).
use Rattle.std.specs.Prelude.{ℕ, List, [], ◌∷◌, ◌++◌, Option, map}
use Rattle.imap_types.specs.declared.code.Code.{Code}
use Rattle.imap_types.specs.declared.response.Response.{Response}
use Rattle.imap_types.specs.declared.response.Status.{Status}
use Rattle.honest_store.specs.StoreMail.{StoreMail}
use Rattle.honest_store.specs.Responses.{ok_code}

-- the store's mail, and the number of the folder that the session has selected
pub record StoreSession : Type 0 where
  pub mail : StoreMail
  pub selected : Option ℕ

-- what a command is answered: untagged responses in order, and what the tagged one says
pub record StoreAnswer : Type 0 where
  pub responses : List Response
  pub status : Status
  pub code : Code

-- an answer's responses before and behind the moment at which the command does what it does, and the code of its tagged one
pub record CutAnswer : Type 0 where
  pub early : List Response
  pub late : List Response
  pub code : Code

abbrev pub all_responses : CutAnswer → List Response
all_responses a = a.early ++ a.late

-- the codes of the untagged OKs and of the tagged response
abbrev pub all_codes : CutAnswer → List Code
all_codes a = map ok_code (all_responses a) ++ a.code ∷ []
