use Rattle.std.proofs.Common.{◌≡◌, drop, map, ◌++◌, option_map}
use Rattle.serde_json.specs.View.{items_view}
use Rattle.jmap_core.specs.Request.{calls_in}
use Rattle.result_references.specs.Call.{call_data}
use Rattle.jmap_core.proofs.request_body.calls_in.Given as goal

-- the calls so far, and those of the rest, are those of all
abbrev pub invariant-loop-item : goal.invariant-loop-item
invariant-loop-item l = calls_in (items_view l.item-items) ≡ option_map (λ cs. map call_data l.calls.items ++ cs) (calls_in (items_view (drop l.item-index l.item-items)))
