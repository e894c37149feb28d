use Rattle.std.proofs.Common.{◌≡◌, map, take}
use Rattle.serde_json.specs.View.{view}
use Rattle.query_changes.specs.Changes.{added_item}
use Rattle.query_changes.proofs.reply.added_list.Given as goal

-- the objects so far
abbrev pub invariant-loop-entry : goal.invariant-loop-entry
invariant-loop-entry l = map view l.objects.items ≡ map (added_item l.letter) (take l.entry-index l.added)
