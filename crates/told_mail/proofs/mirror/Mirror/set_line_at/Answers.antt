use Rattle.std.proofs.Common.{◌<◌, List, length, ap}
use Rattle.told_folder.specs.declared.message.Folder.{Folder}
use Rattle.told_folder.specs.declared.message.NumberedFolder.{NumberedFolder}
use Rattle.told_mail.proofs.NumberLemmas.{numbers_set}
use Rattle.told_mail.proofs.ToldLemmas.{lined_at}
use Rattle.told_mail.proofs.mirror.Mirror.set_line_at.Goals as goal

pub invariant_of-self-then-branch : goal.invariant_of-self-then-branch
invariant_of-self-then-branch c =
    let hs : List NumberedFolder = c.self.inside.folders.items in
    let within : c.args.at < length hs = rw (← c.self.view_is) at c.requires in
    lined_at hs c.args.at c.index_mut-held.result.now _ c.args.line.delimiter c.args.line.attributes.now _ _ _ _ within c.index_mut-held.ensures.value c.in_ok-set_line.ensures.ok
    c.self.invariant

pub returns-then-branch-clause-numbers : goal.returns-then-branch-clause-numbers
returns-then-branch-clause-numbers c =
    let hs : List NumberedFolder = c.self.inside.folders.items in
    let within : c.args.at < length hs = rw (← c.self.view_is) at c.requires in
    rw (← c.self.view_is)
    (numbers_set hs c.args.at c.index_mut-held.result.now _ c.self.inside.next_mark c.self.inside.next_mark c.self.inside.next_folder within
    c.index_mut-held.ensures.value (ap (λ (z : Folder). z.number) c.in_ok-set_line.ensures.ok))
