use Rattle.std.proofs.Common.{◌∙◌, ◌++◌, List, [], ◌∷◌, ap}
use Rattle.told_folder.specs.declared.message.NumberedFolder.{NumberedFolder}
use Rattle.told_mail.proofs.ToldLemmas.{pushed}
use Rattle.told_mail.proofs.mirror.Mirror.push_folder.Goals as goal

pub invariant_of-self-2 : goal.invariant_of-self-2
invariant_of-self-2 c =
    let h : NumberedFolder = record { folder = c.args.folder; messages = c.from_vec-messages.result } in
    pushed c.self.inside.folders.items c.push.new.self.items c.args.folder c.from_vec-messages.result c.self.inside.marks c.self.inside.numbers c.put_name.new.numbers
    c.self.inside.next_mark c.self.inside.next_folder (rw (← c.self.view_is) at c.requires.next) (c.from_vec-messages.ensures ∙ c.new.ensures.items)
    (c.in-Ok.ensures.items ∙ ap (λ (hs : List NumberedFolder). hs ++ h ∷ []) c.reserve.ensures.items) (rw (← c.self.view_is) at c.requires.free)
    (rw c.as_slice.ensures at c.in_ok-put_name.ensures.ok) c.self.invariant
