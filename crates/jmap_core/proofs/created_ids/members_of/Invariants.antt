use Rattle.std.proofs.Common.{◌≡◌, List, ◌++◌}
use Rattle.serde_json.specs.View.{members_view}
use Rattle.jmap_core.specs.CreatedIds.{id_members}
use Rattle.jmap_core.specs.reading.Pairs.{Entry, pairs}
use Rattle.jmap_core.proofs.created_ids.members_of.Given as goal

abbrev pub invariant-loop-creation : goal.invariant-loop-creation
invariant-loop-creation l = (done : List Entry) × (l.ids.entries ≡ done ++ l.creation-iterator) × (members_view l.members.entries ≡ id_members (pairs done))
