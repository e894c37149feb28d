-- An answer as the walk makes it.
use Rattle.std.specs.Prelude.{◌≡◌, ◌↔◌, ◌≢◌, ℕ, ◌+◌, List, [], Option, IsTrue}
use Rattle.std.specs.BTreeMap.{BTreeMap}
use Rattle.change_list.specs.Changes.{Lists}
use Rattle.change_list.specs.reading.Seen.{Gathered}
use Rattle.change_list.specs.reading.Parts.{IsIn}
use Rattle.change_list.specs.declared.entries.Entry.{Entry}
use Rattle.change_list.specs.declared.answer.Changes.{Changes}
use Rattle.change_list.specs.declared.walk.Seen.{Seen}
use Rattle.change_list.specs.declared.parts.Part.TheVariants.{Created, Updated, Destroyed, Mixed}

-- c is made of what was seen in the touches after the place, as many as max allows
pub record Answers (rest : List Entry) (place : ℕ) (max : Option ℕ) (c : Changes) : Type 0 where
  pub seen : BTreeMap ℕ Seen
  pub taken : ℕ
  pub mixed : List ℕ
  pub gathered : Gathered rest max seen taken
  pub to : c.to ≡ place + taken
  pub created : Lists c.created (IsIn seen Created)
  pub updated : Lists c.updated (IsIn seen Updated)
  pub destroyed : Lists c.destroyed (IsIn seen Destroyed)
  pub those_mixed : Lists mixed (IsIn seen Mixed)
  pub counts_only : IsTrue c.counts_only ↔ (c.updated ≢ []) × (mixed ≡ [])
