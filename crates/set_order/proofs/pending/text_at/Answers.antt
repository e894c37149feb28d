use Rattle.std.proofs.Common.{option_map, option_and_then, ap, ◌∙◌}
use Rattle.serde_json.specs.Find.{as_str}
use Rattle.serde_json.specs.View.{view}
use Rattle.serde_json.proofs.Views.{view-lookup}
use Rattle.set_order.proofs.pending.text_at.Goals as goal

pub returns-in_err-get : goal.returns-in_err-get
returns-in_err-get c =
    rw c.from_residual.ensures
    (ap (option_and_then as_str) (ap (option_map view) c.in_err-get.ensures.value ∙ view-lookup c.args.name.now c.args.object.now.entries))

pub returns : goal.returns
returns c =
    c.as_str.ensures ∙ ap (option_and_then as_str) (ap (option_map view) c.in_ok-get.ensures.value ∙ view-lookup c.args.name.now c.args.object.now.entries)
