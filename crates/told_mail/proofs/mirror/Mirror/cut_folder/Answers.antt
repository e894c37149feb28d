use Rattle.std.proofs.Common.{List, ap, sym, ◌∙◌, refl}
use Rattle.told_folder.specs.Places.{IsHeldAt, IsFreeAt}
use Rattle.told_folder.specs.Folders.{folder_number}
use Rattle.std.specs.Option.{option_map}
use Rattle.told_folder.specs.declared.message.NumberedFolder.{NumberedFolder}
use Rattle.told_folder.proofs.KeyedLemmas.{held_found, free_found, item_at, some_is_not_none}
use Rattle.told_mail.proofs.ToldLemmas.{mail_same}
use Rattle.told_mail.proofs.ToldLemmas.{cut_place, cut_none, no_folder}
use Rattle.told_mail.proofs.mirror.Mirror.cut_folder.Goals as goal

pub returns-in-Ok-clause-mail : goal.returns-in-Ok-clause-mail
returns-in-Ok-clause-mail c =
    let hs : List NumberedFolder = c.self.inside.folders.items in
    let held : IsHeldAt folder_number c.args.number hs c.in-Ok.at = rw c.as_slice.ensures.value at c.in-Ok.ensures in
    c.cut_at_place.ensures.mail ∙ rw (← c.self.view_is) (mail_same _ _ _ _ _ _ (cut_place hs c.args.number c.in-Ok.at c.self.invariant.index.numbers held) refl refl)

pub returns-in-Ok-clause-none : goal.returns-in-Ok-clause-none
returns-in-Ok-clause-none c =
    let hs : List NumberedFolder = c.self.inside.folders.items in
    let held : IsHeldAt folder_number c.args.number hs c.in-Ok.at = rw c.as_slice.ensures.value at c.in-Ok.ensures in
    let item = item_at folder_number hs c.in-Ok.at held.within in
    rw (← c.self.view_is) (λ e. absurd (some_is_not_none _ (ap (option_map (λ (h : NumberedFolder). h.folder))
    (held_found folder_number c.args.number hs c.self.invariant.index.numbers c.in-Ok.at held item.0 item.1) ∙ e)))

pub returns-in-Err-clause-mail : goal.returns-in-Err-clause-mail
returns-in-Err-clause-mail c =
    let hs : List NumberedFolder = c.self.inside.folders.items in
    let free : IsFreeAt folder_number c.args.number hs c.in-Err.field-0 = rw c.as_slice.ensures.value at c.in-Err.ensures in
    rw (← c.self.view_is) (mail_same _ _ _ _ _ _ (cut_none c.args.number hs (sym (free_found folder_number c.args.number hs c.self.invariant.index.numbers _ free))) refl refl)

pub returns-in-Err-clause-counted : goal.returns-in-Err-clause-counted
returns-in-Err-clause-counted c =
    let hs : List NumberedFolder = c.self.inside.folders.items in
    let free : IsFreeAt folder_number c.args.number hs c.in-Err.field-0 = rw c.as_slice.ensures.value at c.in-Err.ensures in
    rw (← c.self.view_is) (λ e. absurd (no_folder hs c.args.number (sym (free_found folder_number c.args.number hs c.self.invariant.index.numbers _ free)) e))
