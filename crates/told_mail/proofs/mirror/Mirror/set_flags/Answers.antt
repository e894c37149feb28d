use Rattle.std.proofs.Common.{◌≡◌, ◌<◌, ◌∙◌, List, Some, length, ap, sym, true}
use Rattle.told_folder.specs.Folders.{folder_number, uid_of, message_in}
use Rattle.told_folder.specs.Keyed.{with_key}
use Rattle.told_folder.specs.Places.{IsFreeAt}
use Rattle.told_folder.specs.declared.message.NumberedFolder.{NumberedFolder}
use Rattle.told_folder.proofs.FolderLemmas.{ascend_in}
use Rattle.told_folder.proofs.IndexLemmas.{here, IsHere, messages_here}
use Rattle.told_mail.specs.Mail.{Mail, with_flags}
use Rattle.told_mail.specs.Told.{Told}
use Rattle.told_mail.proofs.FieldLemmas.{flags_held, flags_put, mirror_flagged, none_flagged}
use Rattle.told_mail.proofs.mirror.Mirror.set_flags.Goals as goal

pub returns-then-has_flags-clause-mail : goal.returns-then-has_flags-clause-mail
returns-then-has_flags-clause-mail c = sym (c.has_flags.ensures.0 c.if-has_flags.true)

pub returns-then-has_flags-clause-counted : goal.returns-then-has_flags-clause-counted
returns-then-has_flags-clause-counted c = λ other. absurd (other (c.has_flags.ensures.0 c.if-has_flags.true))

pub returns-in_default-clause-mail : goal.returns-in_default-clause-mail
returns-in_default-clause-mail c =
    let m : Mail = record { folders = c.self.inside.folders.items; next_mark = c.self.inside.next_mark; next_folder = c.self.inside.next_folder } in
    let free : IsFreeAt folder_number c.args.folder m.folders c.in_default.field-0 = rw c.as_slice.ensures.value at c.in_default.ensures in
    rw (← c.self.view_is) (sym (none_flagged m c.args.folder c.args.uid c.in_default.field-0 c.args.flags c.self.invariant.index.numbers free))

pub returns-in_default-clause-counted : goal.returns-in_default-clause-counted
returns-in_default-clause-counted c =
    let m : Mail = record { folders = c.self.inside.folders.items; next_mark = c.self.inside.next_mark; next_folder = c.self.inside.next_folder } in
    let free : IsFreeAt folder_number c.args.folder m.folders c.in_default.field-0 = rw c.as_slice.ensures.value at c.in_default.ensures in
    rw (← c.self.view_is) (λ other. absurd (other (none_flagged m c.args.folder c.args.uid c.in_default.field-0 c.args.flags c.self.invariant.index.numbers free)))

pub set_flags_in-requires : goal.set_flags_in-requires
set_flags_in-requires c =
    let h : IsHere c.self.inside.folders.items c.args.folder c.in-Ok.at c.index_mut-held.result.now =
    here _ c.as_slice.result.now _ _ _ c.as_slice.ensures.value c.self.invariant.index.numbers c.in-Ok.ensures c.index_mut-held.ensures.value in
    ascend_in _ _ _ c.self.invariant.index.uids (sym h.found)

pub invariant_of-self : goal.invariant_of-self
invariant_of-self c =
    let hs : List NumberedFolder = c.self.inside.folders.items in
    let k : NumberedFolder = c.index_mut-held.result.now in
    let h : IsHere hs c.args.folder c.in-Ok.at k =
    here _ c.as_slice.result.now _ _ _ c.as_slice.ensures.value c.self.invariant.index.numbers c.in-Ok.ensures c.index_mut-held.ensures.value in
    let within : c.in-Ok.at < length hs = rw c.as_slice.ensures.value at c.in-Ok.ensures.within in
    let other : with_flags c.args.self.now.mail c.args.folder c.args.uid c.args.flags ≡ c.args.self.now.mail → ⊥ =
    λ e. let t : c.has_flags.result ≡ true = c.has_flags.ensures.1 e in absurd (cc) in
    let x = flags_held c.args.self.now.mail c.args.folder c.args.uid c.args.flags other in
    let found : message_in hs c.args.folder c.args.uid ≡ Some x.0 = ap (λ (t : Told). message_in t.mail.folders c.args.folder c.args.uid) c.self.view_is ∙ x.1 in
    let inside : with_key uid_of c.args.uid k.messages ≡ Some x.0 = ap (with_key uid_of c.args.uid) (sym (messages_here hs c.args.folder k h.found)) ∙ found in
    rw (c.set_flags_in.ensures.held x.0 inside)
    (mirror_flagged hs c.args.folder c.args.uid k x.0 c.args.flags h.found (ascend_in _ _ _ c.self.invariant.index.uids (sym h.found)) inside
    c.in-Ok.at c.self.inside.marks c.self.inside.numbers c.self.inside.next_mark c.self.inside.next_folder h within c.index_mut-held.ensures.value c.self.invariant)

pub returns-clause-mail : goal.returns-clause-mail
returns-clause-mail c =
    let hs : List NumberedFolder = c.self.inside.folders.items in
    let k : NumberedFolder = c.index_mut-held.result.now in
    let h : IsHere hs c.args.folder c.in-Ok.at k =
    here _ c.as_slice.result.now _ _ _ c.as_slice.ensures.value c.self.invariant.index.numbers c.in-Ok.ensures c.index_mut-held.ensures.value in
    let other : with_flags c.args.self.now.mail c.args.folder c.args.uid c.args.flags ≡ c.args.self.now.mail → ⊥ =
    λ e. let t : c.has_flags.result ≡ true = c.has_flags.ensures.1 e in absurd (cc) in
    let x = flags_held c.args.self.now.mail c.args.folder c.args.uid c.args.flags other in
    let found : message_in hs c.args.folder c.args.uid ≡ Some x.0 = ap (λ (t : Told). message_in t.mail.folders c.args.folder c.args.uid) c.self.view_is ∙ x.1 in
    let inside : with_key uid_of c.args.uid k.messages ≡ Some x.0 = ap (with_key uid_of c.args.uid) (sym (messages_here hs c.args.folder k h.found)) ∙ found in
    flags_put hs c.args.folder c.args.uid c.in-Ok.at k c.set_flags_in.new.held x.0 c.args.flags c.self.inside.next_mark c.self.inside.next_folder h c.self.invariant.index.uids
    found (c.set_flags_in.ensures.held x.0 inside)
    ∙ ap (λ (t : Told). with_flags t.mail c.args.folder c.args.uid c.args.flags) c.self.view_is
