use Rattle.std.proofs.Common.{◌≡◌, map, take}
use Rattle.small_answers.specs.ToldResponses.{list_response}
use Rattle.small_store.proofs.told.list_responses.Given as goal

abbrev pub invariant-loop-folder : goal.invariant-loop-folder
invariant-loop-folder l = l.responses.items ≡ map list_response (take l.folder-index l.folders)
