-- The responses that a store's octets spell, one after another.
use Rattle.std.specs.Prelude.{◌≡◌, ◌++◌, ℕ, List, [], ◌∷◌}
use Rattle.imap_types.specs.declared.response.Response.{Response}
use Rattle.imap_types.specs.Spells.{IsSpelling}

-- The octets begin with these responses, and the rest stands after them.
abbrev pub Begins : List Response → List ℕ → List ℕ → Type 0
Begins [] rest octets = octets ≡ rest
Begins (v ∷ vs) rest octets = (text : List ℕ) × (more : List ℕ) × IsSpelling v text × (octets ≡ text ++ more) × Begins vs rest more
