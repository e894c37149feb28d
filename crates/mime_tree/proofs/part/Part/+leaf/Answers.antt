use Rattle.std.proofs.Common.{List, subst, sym}
use Rattle.std.specs.Prelude.{Contains}
use Rattle.mime_tree.specs.declared.part.Part.{Part}
use Rattle.mime_tree.specs.Parts.{Itself, Below}
use Rattle.mime_tree.proofs.part.Part.+leaf.Goals as goal

pub returns-then-is_number : goal.returns-then-is_number
returns-then-is_number t c = (Itself, c.is_number.ensures.0 c.if-is_number.true)

pub returns-in-Some : goal.returns-in-Some
returns-in-Some t c =
    let child = c.child-item.result in
    let P : List Part → Type 0 = λ cs. Contains cs child in
    let i = subst P c.deref-child-items.ensures.value (c.loop-child.child-index, c.loop-child-test.true, sym c.child-item.is) in
    (Below c.args.self.now child i c.in-Some.ensures.0, c.in-Some.ensures.1)
