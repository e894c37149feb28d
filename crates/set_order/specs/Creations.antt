-- What creation ids stand for (RFC 8620 sections 1.2, 3.3 and 5.3).
use Rattle.std.specs.Prelude.{ℕ, List, if◌then◌else◌, is_some, Option, Some, None, option_and_then}
use Rattle.jmap_arguments.specs.Arguments.{is_among}
use Rattle.jmap_core.specs.CreatedIds.{Ids, id_of}
use Rattle.result_references.specs.References.{after_first}

-- the creation id that a text names, which stands after a `#`
abbrev pub creation_in : List ℕ → Option (List ℕ)
creation_in text = after_first 35 text

-- an id doesn't begin as what names a creation id
abbrev pub no_creation : List ℕ → Option (List ℕ)
no_creation id = if is_some (creation_in id) then None else Some id

-- the id of what was created before the call; what the call itself is to make has none before its commit
abbrev pub id_created : List (List ℕ) → Ids → List ℕ → Option (List ℕ)
id_created making created creation = if is_among creation making then None else option_and_then no_creation (id_of creation created)

abbrev pub id_as : List (List ℕ) → Ids → List ℕ → Option (List ℕ) → Option (List ℕ)
id_as making created text None = Some text
id_as making created text (Some creation) = id_created making created creation

-- the id that a text stands for, in a call that is to make these, where the request created these ids before
abbrev pub id_named : List (List ℕ) → Ids → List ℕ → Option (List ℕ)
id_named making created text = id_as making created text (creation_in text)
