use Rattle.std.proofs.Common.{ap, ◌∙◌}
use Rattle.std.specs.Option.{option_map}
use Rattle.serde_json.specs.View.{view}
use Rattle.serde_json.proofs.Views.{view-lookup}
use Rattle.mailbox_checks.proofs.properties.member.Goals as goal

pub returns : goal.returns
returns c = ap (option_map view) c.get.ensures.value ∙ view-lookup c.args.name.now c.args.object.now.entries
