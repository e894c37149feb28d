use Rattle.std.proofs.Common.{[], ◌∷◌, ap, ◌∙◌}
use Rattle.serde_json.specs.View.{items_view}
use Rattle.result_references.proofs.Paths.{items_view-append}
use Rattle.result_references.proofs.pointer.push_value.Goals as goal

pub returns : goal.returns
returns c = ap items_view c.in_ok-push.ensures.items ∙ items_view-append c.args.found.now.items (c.args.value ∷ [])
