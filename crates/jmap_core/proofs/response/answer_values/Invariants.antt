use Rattle.std.proofs.Common.{◌≡◌, map, take}
use Rattle.serde_json.specs.View.{view}
use Rattle.result_references.specs.Call.{call_data}
use Rattle.jmap_core.specs.Response.{answer_data}
use Rattle.jmap_core.proofs.response.answer_values.Given as goal

abbrev pub invariant-loop-answer : goal.invariant-loop-answer
invariant-loop-answer l = map view l.values.items ≡ map answer_data (map call_data (take l.answer-index l.answers))
