-- The type that a download asks for: the value of `accept`, which the query begins with.
use Rattle.std.specs.Prelude.{ℕ, List, [], ◌∷◌, Option, None, Some, ◌==◌, bytes_eq, codes, if◌then◌else◌}
use Rattle.std.specs.List.{before_first, after_first}
use Rattle.percent_encoding.specs.Percent.{percent_decode}

abbrev pub before_and : List ℕ → List ℕ
before_and query = before_first (λ octet. octet == 38) query

abbrev pub accept_in : List ℕ → List ℕ
accept_in query = if bytes_eq (before_first (λ octet. octet == 61) query) (codes "accept") then before_and (after_first (λ octet. octet == 61) query) else []

-- no octet is no type
abbrev pub some_octets : List ℕ → Option (List ℕ)
some_octets [] = None
some_octets (octet ∷ octets) = Some (octet ∷ octets)

abbrev pub media_in : List ℕ → Option (List ℕ)
media_in query = some_octets (percent_decode (accept_in query))
