-- What the code's steps come to.
use Rattle.std.specs.Prelude.{◌≡◌, ℕ, ◌≤◌, List, length}
use Rattle.thread_rule.specs.Subject.{IsLeader, IsTrailer}
use Rattle.thread_rule.specs.BaseSubject.{Drops, DropsEnd, DropsBlob, DropsBlobBeforeText, Lacks, Reaches}

-- a blob at the front is dropped, if there is one
pub data PassesBlob (s t : List ℕ) : Type 0 where
  Dropped : DropsBlob s t → PassesBlob s t
  Absent : Lacks DropsBlob s → t ≡ s → PassesBlob s t

-- what steps 2 to 5 leave of a text
pub record IsStripped (s t : List ℕ) : Type 0 where
  pub reached : Reaches s t
  pub trailer : Lacks (DropsEnd IsTrailer) t
  pub leader : Lacks (Drops IsLeader) t
  pub blob : Lacks DropsBlobBeforeText t
  pub shorter : length t ≤ length s
