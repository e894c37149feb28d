use Rattle.std.proofs.Common.{List, ℕ, ap, ◌∙◌}
use Rattle.serde_json.specs.Find.{get}
use Rattle.serde_json.specs.View.{view}
use Rattle.result_references.proofs.Segments.{first_octet, member-named}
use Rattle.result_references.proofs.path.escaped_member.Goals as goal

pub returns : goal.returns
returns c =
    let segment = c.args.segment.now in
    let token = c.in-Some.token.now in
    c.get.ensures
    ∙ ap (λ (name : List ℕ). get name (view c.args.value.now)) (c.as_str.ensures.value ∙ c.in_ok-name.ensures)
    ∙ member-named segment token (view c.args.value.now) c.requires.segment (first_octet 47 segment token c.in-Some.ensures) c.requires.object
