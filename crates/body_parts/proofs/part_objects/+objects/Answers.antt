use Rattle.std.proofs.Common.{◌≡◌, ◌∙◌, ◌<◌, ◌≤◌, false, true, List, [], ◌∷◌, ap, map, arith, subst, sym}
use denote.Param.Weighed.{most}
use Rattle.std.proofs.lemmas.List.{map-append}
use Rattle.std.proofs.lemmas.Result.{IfOk-weaker}
use Rattle.serde_json.specs.View.{view, members_view}
use Rattle.serde_json.specs.declared.value.Value.{Value}
use Rattle.serde_json.proofs.Views.{view-Object}
use Rattle.mime_tree.specs.declared.part.Part.{Part}
use Rattle.mime_tree.specs.Roles.{is_leaf}
use Rattle.mime_tree.proofs.part.Part.TheLaws.{the_size}
use Rattle.body_parts.specs.Messages.{message_data}
use Rattle.body_parts.specs.PartObjects.{AreObjects}
use Rattle.body_parts.specs.reading.LeafLists.{IsAllWithin, AreAllWithin}
use Rattle.body_parts.proofs.ObjectLemmas.{itself_within, children_within, within_at, no_objects, leaf_object, multi_object, objects_next}
use Rattle.body_parts.proofs.SizeLemmas.{children_smaller, part_no_greater}
use Rattle.body_parts.proofs.part_objects.+objects.Goals as goal

pub part_object-own_members-requires : goal.part_object-own_members-requires
part_object-own_members-requires t c = itself_within c.args.message.now.octets.now c.args.part.now c.requires

pub part_object-returns-then-is_some : goal.part_object-returns-then-is_some
part_object-returns-then-is_some t c =
    let leaf : is_leaf c.args.part.now ≡ true = sym c.is_some.ensures ∙ c.if-is_some.true in
    leaf_object (message_data c.args.message.now) c.args.asked.now c.args.part.now (members_view c.in_ok-members.members.entries) _ leaf c.in_ok-members.ensures
    (view-Object c.in_ok-members.members)

pub part_object-part_objects-requires : goal.part_object-part_objects-requires
part_object-part_objects-requires t c =
    let octets = c.args.message.now.octets.now in
    let P : List Part → Type 0 = λ ps. AreAllWithin octets ps in
    let Q : List Part → Type 0 = λ ps. most the_size ps < the_size c.args.part.now in
    let smaller = subst Q (sym c.deref.ensures.value) (children_smaller c.args.part.now) in
    (omega (arith, c.decreases, smaller), subst P (sym c.deref.ensures.value) (children_within octets c.args.part.now c.requires))

pub part_object-returns : goal.part_object-returns
part_object-returns t c =
    let m = message_data c.args.message.now in
    let asked = c.args.asked.now in
    let no_leaf : is_leaf c.args.part.now ≡ false = sym c.is_some.ensures ∙ c.if-is_some.false in
    let P : List Part → Type 0 = λ ps. AreObjects m asked ps (map view c.in_ok-inner.inner.items) in
    IfOk-weaker c.with_sub_parts.result _ _ (λ v e.
    multi_object m asked c.args.part.now (members_view c.in_ok-members.members.entries) (map view c.in_ok-inner.inner.items) (view v)
    no_leaf c.in_ok-members.ensures (subst P c.deref.ensures.value c.in_ok-inner.ensures) e) c.with_sub_parts.ensures

pub part_objects-loop-part-init : goal.part_objects-loop-part-init
part_objects-loop-part-init t c = no_objects (message_data c.args.message.now) c.args.asked.now _ (ap (λ (vs : List Value). map view vs) c.in_ok-objects.ensures.items)

pub part_objects-part_object-requires : goal.part_objects-part_object-requires
part_objects-part_object-requires t c =
    let octets = c.args.message.now.octets.now in
    let P : Part → Type 0 = λ p. IsAllWithin octets p in
    let Q : Part → Type 0 = λ p. the_size p ≤ most the_size c.args.parts.now in
    let no_greater = subst Q (sym c.part-item.is) (part_no_greater c.args.parts.now c.loop-part.part-index c.part-item.result c.loop-part-test.true) in (
      omega (arith, c.decreases, no_greater),
      subst P (sym c.part-item.is) (within_at octets c.args.parts.now c.loop-part.part-index c.part-item.result c.requires c.loop-part-test.true),
    )

pub part_objects-loop-part-preserved : goal.part_objects-loop-part-preserved
part_objects-loop-part-preserved t c =
    let m = message_data c.args.message.now in
    let asked = c.args.asked.now in
    let before = c.loop-part.objects.items in
    let v = c.in_ok-part_object.field-0 in
    let P : Part → Type 0 = λ p. AreObjects m asked (p ∷ []) (view v ∷ []) in
    let e = ap (λ (vs : List Value). map view vs) c.in_ok-push.ensures.items ∙ map-append view before (v ∷ []) in
    objects_next m asked c.args.parts.now c.loop-part.part-index c.part-item.result (map view before) (view v) _ c.loop-part-test.true c.loop-part.invariant
    (subst P c.part-item.is c.in_ok-part_object.ensures) e
