use Rattle.std.proofs.Common.{◌≡◌, []}
use Rattle.serde_json.specs.View.{members_view}
use Rattle.jmap_core.specs.CreatedIds.{given_to}
use Rattle.jmap_core.proofs.request_body.ids_given.Given as goal

-- the ids of all are those of the rest, put into those so far
abbrev pub invariant-loop-creation : goal.invariant-loop-creation
invariant-loop-creation l = given_to [] (members_view l.members.entries) ≡ given_to l.ids (members_view l.creation-iterator)
