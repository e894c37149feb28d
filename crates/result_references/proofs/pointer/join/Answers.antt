use Rattle.std.proofs.Common.{ap, sym, ◌∙◌, ◌≡◌}
use Rattle.serde_json.specs.Data.{Data, item, no_items}
use Rattle.serde_json.specs.View.{view, items_view}
use Rattle.result_references.specs.References.{joined}
use Rattle.result_references.proofs.Paths.{items_append-none, joined-array, joined-one}
use Rattle.result_references.proofs.pointer.join.Goals as goal

pub returns-in-Ok : goal.returns-in-Ok
returns-in-Ok c =
    let all : joined (view c.args.value) no_items ≡ items_view c.in-Ok.items.items =
    joined-array (view c.args.value) (items_view c.in-Ok.items.items) no_items c.in-Ok.ensures.array ∙ items_append-none (items_view c.in-Ok.items.items) in
    rw all c.append.ensures

pub returns-in-Err : goal.returns-in-Err
returns-in-Err c =
    let one : joined (view c.args.value) no_items ≡ item (view c.in-Err.other) no_items =
    ap (λ (d : Data). joined d no_items) (sym c.in-Err.ensures.other.1) ∙ joined-one (view c.in-Err.other) no_items c.in-Err.ensures.other.0 in
    rw one c.push_value.ensures
