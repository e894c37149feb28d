use Rattle.std.proofs.Common.{◌≡◌, drop, map, ◌++◌, option_map}
use Rattle.serde_json.specs.View.{items_view}
use Rattle.jmap_arguments.specs.Arguments.{texts_in}
use Rattle.jmap_arguments.proofs.arguments.texts_in.Given as goal

-- the texts so far, and those of the rest, are those of all
abbrev pub invariant-loop-item : goal.invariant-loop-item
invariant-loop-item l = texts_in (items_view l.item-items) ≡ option_map (λ ts. map (λ t. t.now) l.texts.items ++ ts) (texts_in (items_view (drop l.item-index l.item-items)))
