use Rattle.std.proofs.Common.{◌≡◌, ◌++◌, drop}
use Rattle.std.specs.List.{flat_map}
use Rattle.store_responses.specs.ResponseTexts.{text_of_response}
use Rattle.small_store.proofs.machine.push_responses.Given as goal

abbrev pub invariant-loop-response : goal.invariant-loop-response
invariant-loop-response l =
    l.octets.items ++ flat_map text_of_response (drop l.response-index l.responses) ≡ l.initial.octets.items ++ flat_map text_of_response l.responses
