use Rattle.std.proofs.Common.{◌∙◌, ◌+◌, List, Vec, Global, ap, map, take, subst, sym}
use Rattle.std.proofs.lemmas.List.{map-append}
use Rattle.serde_json.specs.Data.{Data}
use Rattle.serde_json.specs.View.{view}
use Rattle.serde_json.specs.declared.value.Value.{Value}
use Rattle.body_parts.specs.Messages.{message_data}
use Rattle.body_parts.specs.PartObjects.{AreObjects}
use Rattle.body_parts.specs.reading.LeafLists.{parts_of, parts_at}
use Rattle.body_parts.proofs.ObjectLemmas.{within_there, no_objects, objects_more, objects_same}
use Rattle.body_parts.proofs.part_objects.objects_at.Goals as goal
use Rattle.body_parts.proofs.part_objects.objects_at.Goals.{in-None, in-Some+in_ok-part_object-in-Some+in_ok-push-in-Some}

pub part_object-requires : goal.part_object-requires
part_object-requires c = within_there c.args.message.now.octets.now (parts_of c.args.leaves.now) _ c.in-Some.part.now c.requires c.in-Some.ensures

pub loop-number-init : goal.loop-number-init
loop-number-init c = no_objects (message_data c.args.message.now) c.args.asked.now _ (ap (λ (vs : List Value). map view vs) c.in_ok-objects.ensures.items)

pub loop-number-preserved : goal.loop-number-preserved
loop-number-preserved c =
    let m = message_data c.args.message.now in
    let asked = c.args.asked.now in
    let ls = parts_of c.args.leaves.now in
    let ns = c.args.numbers.now in
    let i = c.loop-number.number-index in
    let before = c.loop-number.objects.items in
    let P : List Data → Type 0 = λ ds. AreObjects m asked (parts_at ls (take (i + 1) ns)) ds in
    let viewed = λ (o : Vec Value Global). map view o.items in
    elim c.match-leaf_at.branch [
      | in-None w ↦ subst P (sym (ap viewed w.objects-is)) (objects_same m asked ls ns i (map view before) c.loop-number-test.true w.in-None.ensures c.loop-number.invariant)
      | in-Some+in_ok-part_object-in-Some+in_ok-push-in-Some w ↦
          let v = w.in_ok-part_object-in-Some.field-0 in
          let e = ap viewed w.objects-is ∙ ap (λ (vs : List Value). map view vs) w.in_ok-push-in-Some.ensures.items ∙ map-append view before _ in
          subst P (sym e) (objects_more m asked ls ns i w.in-Some.part.now (map view before)
          (view v) c.loop-number-test.true w.in-Some.ensures c.loop-number.invariant w.in_ok-part_object-in-Some.ensures)
    ]
