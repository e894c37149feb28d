use Rattle.std.proofs.Common.{◌≡◌, List, [], sym, subst, arith}
use Rattle.std.specs.BTreeMap.{values, btree_map_len}
use Rattle.told_folder.specs.Folders.{uid_of}
use Rattle.told_folder.specs.Keyed.{Ascends}
use Rattle.told_folder.specs.reading.Parts.{AllKeyed, all_of}
use Rattle.told_folder.specs.declared.message.Message.{Message}
use Rattle.told_folder.proofs.KeyedLemmas.{ascends_put}
use Rattle.told_folder.proofs.PartLemmas.{nothing_there, pushed_same, behind_same, keyed_put, one_at_most}
use Rattle.told_folder.proofs.messages.put_behind.Goals as goal

pub returns-in_ok-push-clause-ok : goal.returns-in_ok-push-clause-ok
returns-in_ok-push-clause-ok c =
    let none : values c.args.after.now ≡ [] = nothing_there c.args.after.now.entries (c.is_empty.ensures.0 c.if-is_empty.true) in
    pushed_same c.args.message c.args.before.now.items c.reserve.new.self.items c.push.new.self.items (values c.args.after.now) c.reserve.ensures.items
    c.in_ok-push.ensures.items none c.requires.under

pub returns-in_ok-push-clause-parted : goal.returns-in_ok-push-clause-parted
returns-in_ok-push-clause-parted c =
    let none : btree_map_len c.args.after.now ≡ 0 = c.is_empty.ensures.0 c.if-is_empty.true in
    record {
      ascends = subst (λ (zs : List Message). Ascends uid_of zs) (sym (returns-in_ok-push-clause-ok c))
          (ascends_put uid_of c.args.message (all_of c.args.before.now c.args.after.now) c.requires.parted.ascends);
      keyed = c.requires.parted.keyed;
      room = omega (arith, none, c.in_ok-push.ensures.len, c.push.ensures.capacity, c.in_ok-reserve.ensures.ok);
    }

pub returns-in_ok-insert-clause-ok : goal.returns-in_ok-insert-clause-ok
returns-in_ok-insert-clause-ok c =
    behind_same c.args.message c.args.before.now.items c.reserve.new.self.items c.args.after.now.entries c.insert.new.self.entries c.requires.parted.keyed
    c.reserve.ensures.items c.in_ok-insert.ensures.entries c.requires.under

pub returns-in_ok-insert-clause-parted : goal.returns-in_ok-insert-clause-parted
returns-in_ok-insert-clause-parted c = record {
  ascends = subst (λ (zs : List Message). Ascends uid_of zs) (sym (returns-in_ok-insert-clause-ok c))
      (ascends_put uid_of c.args.message (all_of c.args.before.now c.args.after.now) c.requires.parted.ascends);
  keyed = subst AllKeyed (sym c.in_ok-insert.ensures.entries) (keyed_put c.args.message c.args.after.now.entries c.requires.parted.keyed);
  room = omega (arith, c.len.ensures.len, c.in_ok-insert.ensures.len, one_at_most c.in_ok-insert.field-0, c.in_ok-reserve.ensures.ok);
}
