use Rattle.std.proofs.Common.{◌<◌, List, length, suc}
use Rattle.told_folder.specs.declared.message.NumberedFolder.{NumberedFolder}
use Rattle.told_mail.proofs.ToldLemmas.{names_end, indexed_end, below_take, below_drop, below_append}
use Rattle.told_mail.proofs.mirror.Mirror.cut_at_place.Goals as goal

pub invariant_of-self : goal.invariant_of-self
invariant_of-self c =
    let hs : List NumberedFolder = c.self.inside.folders.items in
    let within : c.args.at < length hs = rw (← c.self.view_is) at c.requires in
    rw c.remove-held.ensures.items (record {
      index = indexed_end hs c.args.at c.remove-held.result c.self.inside.marks c.clear_marks.new.marks c.self.inside.next_mark within
          c.remove-held.ensures.value (rw c.as_slice.ensures at c.clear_marks.ensures) c.self.invariant.index;
      folders = below_append _ _ _ (below_take hs _ c.args.at c.self.invariant.folders) (below_drop hs _ (suc c.args.at) c.self.invariant.folders);
      names = names_end hs c.args.at c.remove-held.result c.self.inside.marks c.self.inside.numbers c.cut_name.new.numbers c.self.inside.next_mark c.self.inside.next_folder within
          c.remove-held.ensures.value (rw c.as_slice-2.ensures at c.cut_name.ensures) c.self.invariant;
    })
