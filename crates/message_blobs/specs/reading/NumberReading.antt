-- How the numbers of leaves are read: one after another, each up to the mark of the next.
use Rattle.std.specs.Prelude.{◌≡◌, ℕ, ◌<◌, ◌≤◌, ◌^◌, Bool, not, ◌==◌, List}
use Rattle.text_words.specs.Cuts.{Stops}
use Rattle.message_blobs.specs.BlobIds.{leaf_text}

-- the octet isn't "-"
abbrev pub is_no_mark : ℕ → Bool
is_no_mark c = not (c == 45)

-- x, where rest follows it, is the number n of a leaf
pub record IsNumberBefore (n : ℕ) (x rest : List ℕ) : Type 0 where
  pub spelled : x ≡ leaf_text n
  pub some : 1 ≤ n
  pub fits : n < 2 ^ 64
  pub ends : Stops is_no_mark rest
