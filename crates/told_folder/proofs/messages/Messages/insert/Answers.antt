use Rattle.std.specs.BTreeMap.{values}
use Rattle.told_folder.specs.Folders.{uid_of}
use Rattle.told_folder.specs.Places.{IsPlace}
use Rattle.told_folder.proofs.PartLemmas.{ascends_left, under_moved}
use Rattle.told_folder.proofs.messages.Messages.insert.Goals as goal

pub place_of-at-requires : goal.place_of-at-requires
place_of-at-requires c = rw c.as_slice.ensures.value (ascends_left c.self.inside.before.items (values c.self.inside.after) c.self.invariant.ascends)

pub put_behind-requires-clause-under : goal.put_behind-requires-clause-under
put_behind-requires-clause-under c =
    let place : IsPlace uid_of c.args.message.uid c.self.inside.before.items c.place_of-at.result = rw (c.as_slice.ensures.value, c.from.ensures) at c.place_of-at.ensures in
    under_moved c.args.message.uid c.self.inside.before.items c.move_from.new.before.items c.place_of-at.result place c.in_ok-move_from.ensures.moved
