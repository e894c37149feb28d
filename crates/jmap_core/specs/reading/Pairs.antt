-- The pairs that the entries of a map of texts are, for private clauses.
use Rattle.std.specs.Prelude.{ℕ, List, map, String, string_bytes}
use Rattle.std.specs.declared.alloc.Global.{Global}
use Rattle.jmap_core.specs.CreatedIds.{Ids}

abbrev pub Entry : Type 0
Entry = String Global × List ℕ

abbrev pub pairs : List Entry → Ids
pairs es = map (λ e. (string_bytes e.0, e.1)) es
