use Rattle.std.proofs.Common.{ap, ◌∙◌, List, ℕ}
use Rattle.std.proofs.lemmas.Result.{on_ok_weaker}
use Rattle.serde_json.specs.Data.{put}
use Rattle.serde_json.specs.View.{view, members_view}
use Rattle.body_parts.proofs.part_objects.put_property.Goals as goal

pub returns : goal.returns
returns c =
    let before = members_view c.args.members.now.entries in
    let d = view c.in_ok-value.value in
    on_ok_weaker c.put.result (λ is. (d, c.in_ok-value.ensures, is ∙ ap (λ (k : List ℕ). put k d before) c.part_key.ensures)) c.put.ensures.ok
