use Rattle.std.proofs.Common.{Bor, ◌∙◌, ap, arith, subst, sym}
use Rattle.std.proofs.lemmas.List.{length-map}
use Rattle.serde_json.specs.View.{members_view}
use Rattle.mime_tree.specs.declared.part.Part.{Part}
use Rattle.body_parts.specs.BodyValues.{PutsValue}
use Rattle.body_parts.specs.reading.Fetching.{has_value_in}
use Rattle.body_parts.specs.reading.LeafLists.{IsAllWithin, parts_of}
use Rattle.body_parts.specs.reading.StepsIf.{StepIf}
use Rattle.body_parts.proofs.ObjectLemmas.{itself_within, there_ref, within_ref}
use Rattle.body_parts.proofs.StepLemmas.{turn_more}
use Rattle.body_parts.proofs.body_values.put_values.Goals as goal

pub put_value-requires : goal.put_value-requires
put_value-requires c =
    let octets = c.args.octets.now in
    let P : Bor Part → Type 0 = λ r. IsAllWithin octets r.now in
    itself_within octets c.part-item.result.now
    (subst P (sym c.part-item.is) (within_ref octets c.args.leaves.now c.loop-part.part-index c.part-item.result c.requires c.loop-part-test.true))

pub loop-part-preserved : goal.loop-part-preserved
loop-part-preserved c =
    let refs = c.args.leaves.now in
    let i = c.loop-part.part-index in
    let r = c.part-item.result in
    let before = members_view c.loop-part.values.entries in
    let after = members_view c.put_value.new.values.entries in
    let Step = StepIf (has_value_in c.args.fetched.now) (PutsValue c.args.most c.args.octets.now) in
    let P : Part → Type 0 = λ p. Step p before after in
    let here = ap (λ (x : Bor Part). x.now) c.part-item.is ∙ sym (there_ref refs i r r.now c.loop-part-test.true) in
    turn_more Step (parts_of refs) i r.now (members_view c.args.values.now.entries) before after (omega (arith, length-map refs (λ (x : Bor Part). x.now), c.loop-part-test.true))
    c.loop-part.invariant (subst P here c.in_ok-put_value.ensures)
