-- Why a client may rely on a /changes: applied to its copy of the state that it named, the answer gives a copy of the new state.
use Rattle.std.specs.Prelude.{◌≡◌, ℕ, List, ◌++◌, Option, Ok}
use Rattle.serde_json.specs.Data.{Data}
use Rattle.change_list.specs.Copy.{IsCopy, applied}
use Rattle.change_list.specs.History.{Touch, map_now, entries_of}
use Rattle.served_maps.specs.Past.{Past, has_now, place_now}
use Rattle.read_methods.specs.Changes.{ChangesAsked, changes_asked, AnsweredChanges, changes_data, Further}

module _ {V : Type 0} where
  -- The values of what is created and updated may be fetched then or later, when the type has gone on by further touches; where the
  -- new state is the last one, and they are fetched at once, the copy is the map that a fresh fetch gives.
  pub record BringsUpToDate (letter epoch : ℕ) (p : Past V) (further : Further) (d reply : Data) : Type 0 where
    pub asked : ChangesAsked
    pub answer : AnsweredChanges epoch (entries_of p.touches) asked
    pub asked_is : changes_asked d ≡ Ok asked
    pub reply_is : reply ≡ changes_data letter epoch (place_now p) asked.since further answer.changes
    pub copies : (more : List (Touch V)) (copy : ℕ → Option V) → IsCopy copy (p.touches ++ more) answer.place
        → IsCopy (applied answer.changes (map_now (p.touches ++ more)) copy) (p.touches ++ more) answer.changes.to
    pub fresh : answer.changes.to ≡ place_now p → (copy : ℕ → Option V) → IsCopy copy p.touches answer.place
        → (q : ℕ) → applied answer.changes (has_now p) copy q ≡ has_now p q
