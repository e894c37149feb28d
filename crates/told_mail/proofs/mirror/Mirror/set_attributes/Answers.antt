use Rattle.std.proofs.Common.{◌≡◌, ◌<◌, ◌∙◌, List, length, ap, sym, refl, true}
use Rattle.told_folder.specs.Folders.{folder_number}
use Rattle.told_folder.specs.Places.{IsFreeAt, IsHeldAt}
use Rattle.told_folder.specs.declared.message.NumberedFolder.{NumberedFolder}
use Rattle.told_folder.proofs.FolderLemmas.{set_here}
use Rattle.told_mail.specs.Mail.{Mail, with_attributes}
use Rattle.told_mail.specs.Told.{Told}
use Rattle.told_mail.proofs.FieldLemmas.{attributes_put, attributes_kept, attributes_found, none_attributed}
use Rattle.told_mail.proofs.ToldLemmas.{lined_at, mail_same}
use Rattle.told_mail.proofs.mirror.Mirror.set_attributes.Goals as goal

pub returns-in_default-clause-mail : goal.returns-in_default-clause-mail
returns-in_default-clause-mail c =
    let m : Mail = record { folders = c.self.inside.folders.items; next_mark = c.self.inside.next_mark; next_folder = c.self.inside.next_folder } in
    let free : IsFreeAt folder_number c.args.folder m.folders c.in_default.field-0 = rw c.as_slice.ensures.value at c.in_default.ensures in
    rw (← c.self.view_is) (sym (none_attributed m c.args.folder c.in_default.field-0 c.args.attributes c.self.invariant.index.numbers free))

pub returns-in_default-clause-counted : goal.returns-in_default-clause-counted
returns-in_default-clause-counted c =
    let m : Mail = record { folders = c.self.inside.folders.items; next_mark = c.self.inside.next_mark; next_folder = c.self.inside.next_folder } in
    let free : IsFreeAt folder_number c.args.folder m.folders c.in_default.field-0 = rw c.as_slice.ensures.value at c.in_default.ensures in
    rw (← c.self.view_is) (λ other. absurd (other (none_attributed m c.args.folder c.in_default.field-0 c.args.attributes c.self.invariant.index.numbers free)))

pub returns-then-are_same-clause-mail : goal.returns-then-are_same-clause-mail
returns-then-are_same-clause-mail c =
    let hs : List NumberedFolder = c.self.inside.folders.items in
    let k : NumberedFolder = c.index_mut-held.result.now in
    let held : IsHeldAt folder_number c.args.folder hs c.in-Ok.at = rw c.as_slice.ensures.value at c.in-Ok.ensures in
    mail_same _ _ _ _ _ _ (set_here hs c.in-Ok.at k held.within c.index_mut-held.ensures.value) refl refl
    ∙ (sym (attributes_kept hs c.in-Ok.at c.args.folder k c.args.attributes c.self.inside.next_mark c.self.inside.next_folder c.self.invariant.index.numbers held
    c.index_mut-held.ensures.value c.self.invariant.folders (c.are_same.ensures.0 c.if-are_same.true))
    ∙ ap (λ (t : Told). with_attributes t.mail c.args.folder c.args.attributes) c.self.view_is)

pub returns-then-are_same-clause-counted : goal.returns-then-are_same-clause-counted
returns-then-are_same-clause-counted c =
    let hs : List NumberedFolder = c.self.inside.folders.items in
    let k : NumberedFolder = c.index_mut-held.result.now in
    let held : IsHeldAt folder_number c.args.folder hs c.in-Ok.at = rw c.as_slice.ensures.value at c.in-Ok.ensures in
    let kept : with_attributes (record { folders = hs; next_mark = c.self.inside.next_mark; next_folder = c.self.inside.next_folder }) c.args.folder c.args.attributes
    ≡ record { folders = hs; next_mark = c.self.inside.next_mark; next_folder = c.self.inside.next_folder } =
    attributes_kept hs c.in-Ok.at c.args.folder k c.args.attributes c.self.inside.next_mark c.self.inside.next_folder c.self.invariant.index.numbers held
    c.index_mut-held.ensures.value c.self.invariant.folders (c.are_same.ensures.0 c.if-are_same.true) in
    rw (← c.self.view_is) (λ other. absurd (other kept))

pub invariant_of-self-2 : goal.invariant_of-self-2
invariant_of-self-2 c =
    let hs : List NumberedFolder = c.self.inside.folders.items in
    let k : NumberedFolder = c.index_mut-held.result.now in
    let within : c.in-Ok.at < length hs = rw c.as_slice.ensures.value at c.in-Ok.ensures.within in
    lined_at hs c.in-Ok.at k (record k.folder { attributes = c.args.attributes }) k.folder.delimiter c.args.attributes _ _ _ _ within c.index_mut-held.ensures.value refl c.self.invariant

pub returns-clause-mail : goal.returns-clause-mail
returns-clause-mail c =
    let hs : List NumberedFolder = c.self.inside.folders.items in
    let held : IsHeldAt folder_number c.args.folder hs c.in-Ok.at = rw c.as_slice.ensures.value at c.in-Ok.ensures in
    attributes_put hs c.in-Ok.at c.args.folder c.index_mut-held.result.now c.args.attributes c.self.inside.next_mark c.self.inside.next_folder c.self.invariant.index.numbers held
    c.index_mut-held.ensures.value c.self.invariant.folders
    ∙ ap (λ (t : Told). with_attributes t.mail c.args.folder c.args.attributes) c.self.view_is

pub returns-clause-same : goal.returns-clause-same
returns-clause-same c = λ stays.
    let hs : List NumberedFolder = c.self.inside.folders.items in
    let k : NumberedFolder = c.index_mut-held.result.now in
    let held : IsHeldAt folder_number c.args.folder hs c.in-Ok.at = rw c.as_slice.ensures.value at c.in-Ok.ensures in
    let same : with_attributes (record { folders = hs; next_mark = c.self.inside.next_mark; next_folder = c.self.inside.next_folder }) c.args.folder c.args.attributes
    ≡ record { folders = hs; next_mark = c.self.inside.next_mark; next_folder = c.self.inside.next_folder } =
    ap (λ (t : Told). with_attributes t.mail c.args.folder c.args.attributes) c.self.view_is ∙ (stays ∙ sym (ap (λ (t : Told). t.mail) c.self.view_is)) in
    let has : k.folder.attributes ≡ c.args.attributes =
    attributes_found hs c.in-Ok.at c.args.folder k c.args.attributes c.self.inside.next_mark c.self.inside.next_folder c.self.invariant.index.numbers held
    c.index_mut-held.ensures.value c.self.invariant.folders same in
    let t : c.are_same.result ≡ true = c.are_same.ensures.1 has in
    absurd (cc)
