use Rattle.std.proofs.Common.{arith, ◌≡◌, ◌<◌, List, ◌∷◌, ◌+◌, ℕ, length, drop, get_or, sym, ap, ◌∙◌, add-one, drop-cons}
use Rattle.std.proofs.lemmas.List.{drop_all}
use Rattle.mime_tree.specs.declared.part.Part.{Part}
use Rattle.mime_tree.specs.reading.ListBuilding.{grown}
use Rattle.mime_tree.specs.BodyLists.{next}
use Rattle.mime_tree.proofs.ListWalkLemmas.{so_far_multi, so_far_met, so_far_same, so_far_done, below_of}
use Rattle.mime_tree.proofs.list_walk.+walk.Goals as goal
use Rattle.mime_tree.proofs.list_walk.+walk.Goals.{walk_parts-else-is_leaf+in_ok-walk_below, walk_parts-then-is_leaf+in_ok-add_leaf}

pub walk_parts-returns : goal.walk_parts-returns
walk_parts-returns t c = so_far_done (drop_all c.loop-part.part-index c.args.parts.now c.loop-part-test.false) c.loop-part.invariant

part_at : (ps : List Part) (i : ℕ) (d : Part) → i < length ps → drop i ps ≡ get_or ps i d ∷ drop (i + 1) ps
part_at ps i d lt = rw add-one (drop-cons ps i d lt)

pub walk_parts-loop-part-preserved : goal.walk_parts-loop-part-preserved
walk_parts-loop-part-preserved t c =
    let ps = c.args.parts.now in
    let p = c.part-item.result in
    let behind = drop (c.loop-part.part-index + 1) ps in
    let is : drop c.loop-part.part-index ps ≡ p ∷ behind = part_at ps c.loop-part.part-index p c.loop-part-test.true ∙ ap (λ (q : Part). q ∷ behind) (sym c.part-item.is) in
    elim c.if-is_leaf.branch [
      | walk_parts-else-is_leaf+in_ok-walk_below w ↦
          so_far_same c.next-walk.result (grown c.if-is_leaf.lists) (c.next-walk.ensures ∙ ap next w.walk-is) (ap grown w.lists-is)
          (so_far_multi p behind _ is c.loop-part.invariant (sym c.is_leaf.ensures ∙ w.if-is_leaf.false) w.in_ok-walk_below.ensures)
      | walk_parts-then-is_leaf+in_ok-add_leaf w ↦
          so_far_same c.next-walk.result (grown c.if-is_leaf.lists) (c.next-walk.ensures ∙ ap next w.walk-is) (ap grown w.lists-is)
          (so_far_met w.at_leaf-walk.result w.is_inline-inline.result p behind _ is c.loop-part.invariant
          (sym c.is_leaf.ensures ∙ w.if-is_leaf.true) w.is_inline-inline.ensures w.at_leaf-walk.ensures w.in_ok-add_leaf.ensures)
    ]

pub walk_below-returns : goal.walk_below-returns
walk_below-returns t c = below_of c.args.walk c.into-inner.result c.args.part.now c.deref.result.now (grown c.args.lists.now) (grown c.walk_parts.new.lists)
    (grown c.spread.new.lists) c.len-text.result c.len-html.result c.deref.ensures.value c.into-inner.ensures c.in_ok-walk_parts.ensures
    (omega (arith, c.len-text.ensures, c.args.lists.now.text.ok)) (omega (arith, c.len-html.ensures, c.args.lists.now.html.ok)) c.in_ok-spread.ensures
