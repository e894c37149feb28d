use Rattle.std.proofs.Common.{◌∙◌, ◌++◌, List, ap, sym, subst, arith}
use Rattle.std.specs.BTreeMap.{values}
use Rattle.told_folder.specs.Folders.{uid_of}
use Rattle.told_folder.specs.Keyed.{Ascends}
use Rattle.told_folder.specs.reading.Parts.{all_of}
use Rattle.told_folder.specs.declared.message.Message.{Message}
use Rattle.told_folder.proofs.KeyedLemmas.{ascends_cut}
use Rattle.told_folder.proofs.PartLemmas.{cut_inside, found_self}
use Rattle.told_folder.proofs.messages.cut_within.Goals as goal

pub returns-clause-cut : goal.returns-clause-cut
returns-clause-cut c =
    ap (λ (zs : List Message). zs ++ values c.args.after.now) c.remove.ensures.items
    ∙ sym (cut_inside c.args.uid c.args.before.now.items (values c.args.after.now) c.args.at c.requires.held c.requires.parted.ascends)

pub returns-clause-parted : goal.returns-clause-parted
returns-clause-parted c = record {
  ascends = subst (λ (zs : List Message). Ascends uid_of zs) (sym (returns-clause-cut c))
      (ascends_cut uid_of c.args.uid (all_of c.args.before.now c.args.after.now) c.requires.parted.ascends);
  keyed = c.requires.parted.keyed;
  room = omega (arith, c.remove.ensures.len, c.remove.ensures.capacity, c.requires.parted.room);
}

pub returns-clause-message : goal.returns-clause-message
returns-clause-message c =
    sym (found_self c.args.uid c.args.before.now.items (values c.args.after.now) c.args.at c.requires.held c.requires.parted.ascends c.remove.result c.remove.ensures.value)
