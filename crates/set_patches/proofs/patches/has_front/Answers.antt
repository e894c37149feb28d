use Rattle.std.proofs.Common.{sym, ap, ◌∙◌}
use Rattle.serde_json.specs.View.{members_view}
use Rattle.set_patches.specs.reading.Parts.{first_is_member}
use Rattle.set_patches.proofs.OverlapLemmas.{front_found}
use Rattle.set_patches.proofs.TokenLemmas.{one_token, more_tokens}
use Rattle.set_patches.proofs.patches.has_front.Goals as goal

pub returns-in-None : goal.returns-in-None
returns-in-None c = sym (ap (first_is_member (members_view c.args.patch.now.entries)) (one_token c.args.key.now c.in-None.ensures.cases))

pub returns-in-Some : goal.returns-in-Some
returns-in-Some c =
    c.contains_key.ensures ∙ front_found c.in-Some.front.now c.in-Some.field-0-1.now c.args.patch.now.entries
    ∙ sym (ap (first_is_member (members_view c.args.patch.now.entries)) (more_tokens c.args.key.now (c.in-Some.front, c.in-Some.field-0-1) c.in-Some.ensures.cases))
