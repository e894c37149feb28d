use Rattle.std.proofs.Common.{List, sym, subst, arith}
use Rattle.told_folder.specs.Folders.{uid_of}
use Rattle.told_folder.specs.Keyed.{Ascends}
use Rattle.told_folder.specs.reading.Parts.{AllKeyed}
use Rattle.told_folder.specs.declared.message.Message.{Message}
use Rattle.told_folder.proofs.PartLemmas.{moved_same, keyed_put, one_at_most}
use Rattle.told_folder.proofs.messages.move_last.Goals as goal

pub returns-in-Ok-clause-same : goal.returns-in-Ok-clause-same
returns-in-Ok-clause-same c =
    moved_same c.args.before.now.items c.pop.new.self.items c.args.after.now.entries c.insert.new.self.entries c.in-Some.message c.requires.keyed c.requires.ascends
    c.in-Some.ensures.items c.in-Ok.ensures.entries

pub returns-in-Ok-clause-parted : goal.returns-in-Ok-clause-parted
returns-in-Ok-clause-parted c = record {
  ascends = subst (λ (zs : List Message). Ascends uid_of zs) (sym (returns-in-Ok-clause-same c)) c.requires.ascends;
  keyed = subst AllKeyed (sym c.in-Ok.ensures.entries) (keyed_put c.in-Some.message c.args.after.now.entries c.requires.keyed);
  room = omega (arith, c.in-Some.ensures.len, c.pop.ensures.capacity, c.in-Ok.ensures.len, one_at_most c.in-Ok.field-0, c.requires.room);
}
