-- Streams that may not be there.
use Rattle.std.specs.Prelude.{ℕ, List, Option, None, Some}

-- what is known of a stream, and nothing where there is none
abbrev pub known_of : {S : Type 0} → (S → Option (List ℕ)) → Option S → Option (List ℕ)
known_of known None = None
known_of known (Some stream) = known stream
