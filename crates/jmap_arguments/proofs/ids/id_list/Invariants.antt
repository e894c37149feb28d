use Rattle.std.proofs.Common.{◌≡◌, map, take}
use Rattle.serde_json.specs.View.{view}
use Rattle.jmap_arguments.specs.Ids.{id_data}
use Rattle.jmap_arguments.proofs.ids.id_list.Given as goal

-- the ids so far
abbrev pub invariant-loop-number : goal.invariant-loop-number
invariant-loop-number l = map view l.ids.items ≡ map (id_data l.letter) (take l.number-index l.numbers)
