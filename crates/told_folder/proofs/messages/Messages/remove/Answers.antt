use Rattle.std.proofs.Common.{◌≡◌, ◌∙◌, List, ap, sym, subst, arith}
use Rattle.std.specs.BTreeMap.{values}
use Rattle.told_folder.specs.Folders.{uid_of}
use Rattle.told_folder.specs.Keyed.{Ascends, with_key, cut_keyed}
use Rattle.told_folder.specs.Places.{IsPlace}
use Rattle.told_folder.specs.reading.Parts.{AllKeyed, AllUnder, all_of}
use Rattle.told_folder.specs.declared.message.Message.{Message}
use Rattle.told_folder.proofs.KeyedLemmas.{ascends_cut}
use Rattle.told_folder.proofs.PartLemmas.{ascends_left, under_moved, removed_same, keyed_cut, looked_up, found_right, none_under}
use Rattle.told_folder.proofs.messages.Messages.remove.Goals as goal

pub place_of-at-requires : goal.place_of-at-requires
place_of-at-requires c = rw c.as_slice.ensures.value (ascends_left c.self.inside.before.items (values c.self.inside.after) c.self.invariant.ascends)

pub invariant_of-self-2 : goal.invariant_of-self-2
invariant_of-self-2 c =
    let place : IsPlace uid_of c.args.uid c.self.inside.before.items c.place_of-at.result = rw (c.as_slice.ensures.value, c.from.ensures) at c.place_of-at.ensures in
    let under = under_moved c.args.uid c.self.inside.before.items c.move_from.new.before.items c.place_of-at.result place c.in_ok-move_from.ensures.moved in
    let same = removed_same c.args.uid c.move_from.new.before.items c.move_from.new.after.entries c.remove.new.self.entries c.in_ok-move_from.ensures.parted.keyed
    c.in_ok-move_from.ensures.parted.ascends under c.remove.ensures.entries in
    record {
      ascends = subst (λ (zs : List Message). Ascends uid_of zs) (sym same)
          (ascends_cut uid_of c.args.uid (all_of c.move_from.new.before c.move_from.new.after) c.in_ok-move_from.ensures.parted.ascends);
      keyed = subst AllKeyed (sym c.remove.ensures.entries) (keyed_cut c.args.uid c.move_from.new.after.entries c.in_ok-move_from.ensures.parted.keyed);
      room = omega (arith, c.remove.ensures.len, c.in_ok-move_from.ensures.parted.room);
    }

pub returns-clause-ok : goal.returns-clause-ok
returns-clause-ok c =
    let place : IsPlace uid_of c.args.uid c.self.inside.before.items c.place_of-at.result = rw (c.as_slice.ensures.value, c.from.ensures) at c.place_of-at.ensures in
    let under = under_moved c.args.uid c.self.inside.before.items c.move_from.new.before.items c.place_of-at.result place c.in_ok-move_from.ensures.moved in
    let all : all_of c.move_from.new.before c.move_from.new.after ≡ c.args.self.now = c.in_ok-move_from.ensures.same ∙ c.self.view_is in
    removed_same c.args.uid c.move_from.new.before.items c.move_from.new.after.entries c.remove.new.self.entries c.in_ok-move_from.ensures.parted.keyed
    c.in_ok-move_from.ensures.parted.ascends under c.remove.ensures.entries ∙ ap (λ (zs : List Message). cut_keyed uid_of c.args.uid zs) all

pub returns-clause-message : goal.returns-clause-message
returns-clause-message c =
    let place : IsPlace uid_of c.args.uid c.self.inside.before.items c.place_of-at.result = rw (c.as_slice.ensures.value, c.from.ensures) at c.place_of-at.ensures in
    let under : AllUnder c.args.uid c.move_from.new.before.items =
    under_moved c.args.uid c.self.inside.before.items c.move_from.new.before.items c.place_of-at.result place c.in_ok-move_from.ensures.moved in
    let all : all_of c.move_from.new.before c.move_from.new.after ≡ c.args.self.now = c.in_ok-move_from.ensures.same ∙ c.self.view_is in
    c.remove.ensures.value ∙ looked_up c.args.uid c.move_from.new.after.entries c.in_ok-move_from.ensures.parted.keyed
    ∙ sym (found_right c.args.uid c.move_from.new.before.items (values c.move_from.new.after) (none_under c.args.uid c.move_from.new.before.items under))
    ∙ ap (λ (zs : List Message). with_key uid_of c.args.uid zs) all
