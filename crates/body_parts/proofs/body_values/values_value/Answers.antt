use Rattle.std.proofs.Common.{Bool, List, ap, subst}
use Rattle.std.specs.Prelude.{◌&&◌}
use Rattle.std.specs.List.{filter}
use Rattle.serde_json.specs.Data.{Members}
use Rattle.serde_json.specs.View.{members_view}
use Rattle.serde_json.proofs.Views.{view-Object}
use Rattle.email_properties.specs.Wanted.{body_asked}
use Rattle.mime_tree.specs.declared.part.Part.{Part}
use Rattle.mime_tree.specs.Heads.{is_text}
use Rattle.mime_tree.specs.Roles.{media}
use Rattle.body_parts.specs.BodyValues.{has_value, PutsValue}
use Rattle.body_parts.specs.Steps.{InTurn}
use Rattle.body_parts.specs.reading.Fetching.{has_value_in}
use Rattle.body_parts.specs.reading.LeafLists.{parts_of}
use Rattle.body_parts.proofs.StepLemmas.{filter_same, turn_filter}
use Rattle.body_parts.proofs.body_values.values_value.Goals as goal

pub returns : goal.returns
returns c =
    let leaves = parts_of c.args.leaves.now in
    let Step = PutsValue c.args.asked.now.max_octets c.args.octets.now in
    let values = c.put_values.new.values in
    let fetched = has_value_in c.in_ok-fetched.fetched in
    let asked = has_value (body_asked c.args.asked.now) c.args.lists.now in
    let same = filter_same fetched asked leaves (λ p. ap (λ (b : Bool). is_text (media p) && b) (c.in_ok-fetched.ensures p)) in
    let P : List Part → Type 0 = λ ps. InTurn Step ps (members_view c.new-values.result.entries) (members_view values.entries) in
    let Q : Members → Type 0 = λ ms. InTurn Step (filter asked leaves) ms (members_view values.entries) in (
      members_view values.entries,
      subst Q (ap members_view c.new-values.ensures.empty) (subst P same (turn_filter Step fetched leaves _ _ c.in_ok-put_values.ensures)),
      view-Object values,
    )
