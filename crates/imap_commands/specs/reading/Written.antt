-- What is written of a command so far.
use Rattle.std.specs.Prelude.{◌≡◌, ℕ, List, ◌∷◌, ◌++◌}
use Rattle.imap_types.specs.Commands.{Part, put_before, pieces_of}

-- What a part adds to the pieces that are done and to the one that is begun: with whatever parts after it, all pieces
-- are the same.
abbrev pub AddsPart : Part → List (List ℕ) → List ℕ → List (List ℕ) → List ℕ → Type 0
AddsPart part done begun done_after begun_after =
    (rest : List Part) → done_after ++ put_before begun_after (pieces_of rest) ≡ done ++ put_before begun (pieces_of (part ∷ rest))
