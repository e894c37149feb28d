use Rattle.std.proofs.Common.{◌≡◌, length, eqb, eqb-true, true, ap, ◌∙◌}
use Rattle.std.proofs.lemmas.List.{nil_from_length}
use Rattle.mail_header.specs.Lines.{unfolded}
use Rattle.mime_fields.proofs.IdLemmas.{gathered_more, gathered_all}
use Rattle.mime_fields.proofs.content_id.without_gaps.Goals as goal

pub loop-rest-preserved : goal.loop-rest-preserved
loop-rest-preserved c =
    gathered_more c.args.comments c.loop-rest.kept.items c.push_unit.new.kept.items c.loop-rest.rest.now c.in_ok-rest.rest.now c.args.text.now c.loop-rest.invariant c.in_ok-rest.ensures

pub returns : goal.returns
returns c =
    let kept = c.loop-rest.kept.items in
    let rest = c.loop-rest.rest.now in
    let e : eqb (length rest) 0 ≡ true = cc in
    gathered_all c.args.comments kept rest c.args.text.now _ c.loop-rest.invariant (nil_from_length rest (eqb-true (length rest) 0 e))
    (c.in_ok-unfold.ensures ∙ ap unfolded c.as_slice.ensures.value)
