use Rattle.std.proofs.Common.{◌<◌, ◌≤◌, ◌∙◌, List, ap, sym, length, arith}
use Rattle.std.specs.BTreeMap.{values}
use Rattle.std.specs.Option.{option_map}
use Rattle.told_folder.specs.Folders.{uid_of}
use Rattle.told_folder.specs.Places.{IsPlace}
use Rattle.told_folder.specs.declared.message.Message.{Message}
use Rattle.told_folder.proofs.PartLemmas.{ascends_left, first_at, first_after}
use Rattle.told_folder.proofs.messages.Messages.first_from.Goals as goal

pub place_of-at-requires : goal.place_of-at-requires
place_of-at-requires c = rw c.as_slice.ensures.value (ascends_left c.self.inside.before.items (values c.self.inside.after) c.self.invariant.ascends)

pub returns-then-at-len : goal.returns-then-at-len
returns-then-at-len c =
    let xs : List Message = c.self.inside.before.items in
    let place : IsPlace uid_of c.args.first xs c.place_of-at.result = rw (c.as_slice.ensures.value, c.from.ensures) at c.place_of-at.ensures in
    let within : c.place_of-at.result < length xs = omega (arith, c.len.ensures, c.if-at-len.true, c.self.inside.before.ok) in
    rw (← c.self.view_is) (sym (ap (option_map uid_of)
    (first_at c.args.first xs (values c.self.inside.after) c.place_of-at.result place.before place.from within c.index.result.now c.index.ensures)))

pub returns-else-at-len : goal.returns-else-at-len
returns-else-at-len c =
    let xs : List Message = c.self.inside.before.items in
    let place : IsPlace uid_of c.args.first xs c.place_of-at.result = rw (c.as_slice.ensures.value, c.from.ensures) at c.place_of-at.ensures in
    let end : length xs ≤ c.place_of-at.result = omega (arith, c.len.ensures, c.if-at-len.false, c.self.inside.before.ok) in
    rw (← c.self.view_is) (c.first_key.ensures c.self.invariant.keyed
    ∙ sym (ap (option_map uid_of) (first_after c.args.first xs (values c.self.inside.after) c.place_of-at.result place.before end)))
