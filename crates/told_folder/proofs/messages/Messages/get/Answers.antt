use Rattle.std.proofs.Common.{◌≡◌, ◌∙◌, List, Some, None, sym}
use Rattle.std.specs.BTreeMap.{values}
use Rattle.told_folder.specs.Folders.{uid_of}
use Rattle.told_folder.specs.Keyed.{with_key}
use Rattle.told_folder.specs.declared.message.Message.{Message}
use Rattle.told_folder.proofs.PartLemmas.{ascends_left, found_left, found_right, looked_up}
use Rattle.told_folder.proofs.messages.Messages.get.Goals as goal

pub find-requires : goal.find-requires
find-requires c = rw c.as_slice.ensures.value (ascends_left c.self.inside.before.items (values c.self.inside.after) c.self.invariant.ascends)

pub returns-in-Some : goal.returns-in-Some
returns-in-Some c =
    let xs : List Message = c.self.inside.before.items in
    let here : Some c.in-Some.message.now ≡ with_key uid_of c.args.uid xs = rw (c.as_slice.ensures.value, c.from.ensures) at c.in-Some.ensures in
    rw (← c.self.view_is) (sym (found_left c.args.uid xs (values c.self.inside.after) c.in-Some.message.now (sym here)))

pub returns-in-None : goal.returns-in-None
returns-in-None c =
    let xs : List Message = c.self.inside.before.items in
    let none : None ≡ with_key uid_of c.args.uid xs = rw (c.as_slice.ensures.value, c.from.ensures) at c.in-None.ensures in
    rw (← c.self.view_is) (c.get.ensures.value ∙ looked_up c.args.uid c.self.inside.after.entries c.self.invariant.keyed
    ∙ sym (found_right c.args.uid xs (values c.self.inside.after) (sym none)))
