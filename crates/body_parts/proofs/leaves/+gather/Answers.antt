use Rattle.std.proofs.Common.{◌≡◌, false, true, List, [], ◌∷◌, ap, ◌∙◌, subst, sym}
use Rattle.std.proofs.lemmas.Result.{on_ok_weaker}
use Rattle.mime_tree.specs.declared.part.Part.{Part}
use Rattle.mime_tree.specs.Roles.{is_leaf}
use Rattle.body_parts.specs.reading.LeafLists.{parts_of, Gathers}
use Rattle.body_parts.proofs.ObjectLemmas.{parts_more, gathers_none, gathers_leaf, gathers_multi, gathers_more}
use Rattle.body_parts.proofs.leaves.+gather.Goals as goal

pub gather-loop-part-init : goal.gather-loop-part-init
gather-loop-part-init t c = gathers_none (parts_of c.args.leaves.now.items)

pub gather-loop-part-preserved : goal.gather-loop-part-preserved
gather-loop-part-preserved t c =
    let P : Part → Type 0 = λ p. Gathers (p ∷ []) (parts_of c.loop-part.leaves.items) (parts_of c.gather_part.new.leaves.items) in
    gathers_more c.args.parts.now c.loop-part.part-index c.part-item.result _ _ _ c.loop-part-test.true c.loop-part.invariant (subst P c.part-item.is c.in_ok-gather_part.ensures)

pub gather_part-returns-then-is_some : goal.gather_part-returns-then-is_some
gather_part-returns-then-is_some t c =
    let leaf : is_leaf c.args.part.now ≡ true = sym c.is_some.ensures ∙ c.if-is_some.true in
    gathers_leaf c.args.part.now (parts_of c.args.leaves.now.items) (parts_of c.push.new.self.items) leaf
    (ap parts_of c.in_ok-push.ensures.items ∙ parts_more c.args.leaves.now.items _)

pub gather_part-returns : goal.gather_part-returns
gather_part-returns t c =
    let no_leaf : is_leaf c.args.part.now ≡ false = sym c.is_some.ensures ∙ c.if-is_some.false in
    let P : List Part → Type 0 = λ cs. Gathers cs (parts_of c.args.leaves.now.items) (parts_of c.gather.new.leaves.items) in
    on_ok_weaker c.gather.result (λ h. gathers_multi c.args.part.now _ _ no_leaf (subst P c.deref.ensures.value h)) c.gather.ensures
