use Rattle.std.proofs.Common.{◌≡◌, Option, Some, None, option_map, option_copied, refl, ap, ◌∙◌}
use Rattle.std.specs.Borrow.{Bor}
use Rattle.serde_json.specs.View.{view}
use Rattle.serde_json.specs.declared.value.Value.{Value}
use Rattle.serde_json.proofs.Views.{view-lookup}
use Rattle.email_creation.proofs.members.member.Goals as goal

viewed : (o : Option (Bor Value)) → option_map (λ (v : Bor Value). view v.now) o ≡ option_map view (option_copied o)
viewed None = refl
viewed (Some v) = refl

pub returns : goal.returns
returns c = viewed c.get.result ∙ ap (option_map view) c.get.ensures.value ∙ view-lookup c.args.name.now c.args.object.now.entries
