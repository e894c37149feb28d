use Rattle.std.proofs.Common.{◌≡◌, ◌∙◌, List, None, ap, sym}
use Rattle.std.specs.Option.{option_map}
use Rattle.told_folder.specs.Places.{IsHeldAt, IsFreeAt}
use Rattle.told_folder.specs.Folders.{folder_number, held_in}
use Rattle.told_folder.specs.declared.message.NumberedFolder.{NumberedFolder}
use Rattle.told_folder.proofs.KeyedLemmas.{held_found, free_found, some_is_not_none}
use Rattle.told_mail.proofs.NameLemmas.{placed, unplaced}
use Rattle.told_mail.proofs.mirror.Mirror.place_named.Goals as goal

pub returns-in_default : goal.returns-in_default
returns-in_default c =
    rw (← c.self.view_is) (unplaced _ c.self.inside.folders.items c.self.invariant.names c.self.invariant.index.numbers c.args.name.now (sym c.in_default.ensures.value))

pub returns-in-Ok : goal.returns-in-Ok
returns-in-Ok c =
    let hs : List NumberedFolder = c.self.inside.folders.items in
    let held : IsHeldAt folder_number c.in-Some.number.now hs c.in-Ok.at = rw c.as_slice.ensures.value at c.in-Ok.ensures in
    rw (← c.self.view_is) (record {
      within = held.within;
      found = λ h is. placed _ hs c.self.invariant.names c.self.invariant.index.numbers c.args.name.now c.in-Some.number.now h (sym c.in-Some.ensures.value)
          (sym (held_found folder_number c.in-Some.number.now hs c.self.invariant.index.numbers c.in-Ok.at held h is));
    })

pub returns-in-Err : goal.returns-in-Err
returns-in-Err c =
    let hs : List NumberedFolder = c.self.inside.folders.items in
    let free : IsFreeAt folder_number c.in-Some.number.now hs c.in-Err.field-0 = rw c.as_slice.ensures.value at c.in-Err.ensures in
    let none : None ≡ held_in hs c.in-Some.number.now = free_found folder_number c.in-Some.number.now hs c.self.invariant.index.numbers _ free in
    absurd (some_is_not_none _ (sym (c.self.invariant.names.to c.args.name.now c.in-Some.number.now (sym c.in-Some.ensures.value))
    ∙ ap (option_map (λ (h : NumberedFolder). h.folder.name)) (sym none)))
