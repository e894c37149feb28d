use Rattle.std.proofs.Common.{◌∙◌, ap, ℕ, Global}
use Rattle.std.specs.Prelude.{Vec}
use Rattle.serde_json.specs.View.{view}
use Rattle.gateway.proofs.Showing.{shows_object}
use Rattle.gateway.proofs.show.object_line.Goals as goal

pub returns : goal.returns
returns c =
    let text_is = c.in_ok-from_vec.ensures ∙ ap (λ (v : Vec ℕ Global). v.items) c.into_bytes.ensures.value ∙ c.in_ok-text.ensures.text c.in_ok-object.ensures.whole in
    shows_object c.args.octets.now (view c.in_ok-object.object) c.in_ok-from_vec.field-0 c.with_line_end.result c.in_ok-object.ensures.object text_is c.with_line_end.ensures
