use Rattle.std.proofs.Common.{◌≡◌, ◌<◌, ◌+◌, ◌∙◌, ℕ, List, ap, sym, refl, arith, set, max}
use Rattle.told_folder.specs.Places.{IsHeldAt}
use Rattle.told_folder.specs.Keyed.{put_keyed}
use Rattle.told_folder.specs.Folders.{folder_number, held_in, messages_of}
use Rattle.told_folder.specs.declared.message.NumberedFolder.{NumberedFolder}
use Rattle.told_folder.specs.declared.message.Message.{Message}
use Rattle.told_folder.proofs.KeyedLemmas.{held_found, put_held}
use Rattle.told_mail.proofs.ToldLemmas.{mail_same}
use Rattle.told_mail.proofs.ToldLemmas.{renamed_at, below_get}
use Rattle.told_mail.proofs.mirror.Mirror.set_folder_at.Goals as goal

pub invariant_of-self-2 : goal.invariant_of-self-2
invariant_of-self-2 c =
    let hs : List NumberedFolder = c.self.inside.folders.items in
    let held : IsHeldAt folder_number c.args.folder.number hs c.args.at = rw (← c.self.view_is) at c.requires.held in
    renamed_at hs c.args.at c.index_mut-held.result.now c.args.folder c.self.inside.marks c.self.inside.numbers c.change_name.new.numbers c.self.inside.next_mark
    c.self.inside.next_folder held
    c.index_mut-held.ensures.value (rw (← c.self.view_is) at c.requires.name)
    (rw (c.as_slice.ensures, c.as_slice-2.ensures) at c.in_ok-change_name.ensures.ok) c.self.invariant

pub returns-clause-ok : goal.returns-clause-ok
returns-clause-ok c =
    let hs : List NumberedFolder = c.self.inside.folders.items in
    let n : ℕ = c.args.folder.number in
    let held : IsHeldAt folder_number n hs c.args.at = rw (← c.self.view_is) at c.requires.held in
    let h : NumberedFolder = c.index_mut-held.result.now in
    let messages : messages_of (held_in hs n) ≡ h.messages = ap messages_of
    (sym (held_found folder_number n hs c.self.invariant.index.numbers c.args.at held h c.index_mut-held.ensures.value)) in
    let put : put_keyed folder_number (record { folder = c.args.folder; messages = h.messages }) hs ≡ set hs c.args.at (record { folder = c.args.folder; messages = h.messages }) =
    put_held folder_number n (record { folder = c.args.folder; messages = h.messages }) hs c.args.at held refl in
    let below : folder_number h < c.self.inside.next_folder =
    below_get hs c.self.inside.next_folder c.args.at h c.self.invariant.folders held.within c.index_mut-held.ensures.value in
    let number : folder_number h ≡ n = ap folder_number c.index_mut-held.ensures.value ∙ held.same h in
    let next : c.self.inside.next_folder ≡ max c.self.inside.next_folder (n + 1) = omega (arith, below, number) in
    rw (← c.self.view_is) (mail_same _ _ _ _ _ _ (sym put ∙ ap (λ (xs : List Message). put_keyed folder_number (record { folder = c.args.folder; messages = xs }) hs)
    (sym messages)) refl next)
