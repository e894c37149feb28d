use Rattle.std.proofs.Common.{arith, ◌≡◌, List, [], None, ap, sym, ◌∙◌, ◌++◌, ◌∷◌, refl, take, drop}
use Rattle.told_folder.specs.Places.{IsFreeAt}
use Rattle.told_folder.specs.Keyed.{put_keyed}
use Rattle.told_folder.specs.Folders.{folder_number, held_in, messages_of}
use Rattle.told_folder.specs.declared.message.NumberedFolder.{NumberedFolder}
use Rattle.told_folder.specs.declared.message.Message.{Message}
use Rattle.told_folder.proofs.KeyedLemmas.{free_found}
use Rattle.told_mail.proofs.NameLemmas.{unused_name}
use Rattle.told_mail.proofs.ToldLemmas.{mail_same, folder_put, mirror_put}
use Rattle.told_mail.proofs.mirror.Mirror.put_folder_at.Goals as goal

pub invariant_of-self-2 : goal.invariant_of-self-2
invariant_of-self-2 c =
    let hs : List NumberedFolder = c.self.inside.folders.items in
    let free : IsFreeAt folder_number c.args.folder.number hs c.args.place = rw (← c.self.view_is) at c.requires.free in
    let new : held_in hs c.args.folder.number ≡ None = sym (free_found folder_number c.args.folder.number hs c.self.invariant.index.numbers c.args.place free) in
    let h : NumberedFolder = record { folder = c.args.folder; messages = c.from_vec-messages.result } in
    let put : c.insert.new.self.items ≡ put_keyed folder_number (record { folder = c.args.folder; messages = [] }) hs =
    folder_put hs _ c.args.folder _ c.args.place free.place new (c.from_vec-messages.ensures ∙ c.new.ensures.items)
    (c.in-Ok.ensures.items ∙ ap (λ (ks : List NumberedFolder). take c.args.place ks ++ h ∷ drop c.args.place ks) c.reserve.ensures.items) in
    mirror_put hs c.insert.new.self.items c.args.folder c.self.inside.marks c.self.inside.numbers c.put_name.new.numbers c.self.inside.next_mark c.self.inside.next_folder
    c.max-self-inside.result put new (unused_name hs c.args.folder.name c.args.folder.number c.self.invariant.index.numbers new (rw (← c.self.view_is) at c.requires.name))
    (rw c.as_slice.ensures at c.in_ok-put_name.ensures.ok) (omega (arith, c.max-self-inside.ensures)) (omega (arith, c.max-self-inside.ensures)) c.self.invariant

pub returns-clause-ok : goal.returns-clause-ok
returns-clause-ok c =
    let hs : List NumberedFolder = c.self.inside.folders.items in
    let free : IsFreeAt folder_number c.args.folder.number hs c.args.place = rw (← c.self.view_is) at c.requires.free in
    let new : held_in hs c.args.folder.number ≡ None = sym (free_found folder_number c.args.folder.number hs c.self.invariant.index.numbers c.args.place free) in
    let h : NumberedFolder = record { folder = c.args.folder; messages = c.from_vec-messages.result } in
    let put : c.insert.new.self.items ≡ put_keyed folder_number (record { folder = c.args.folder; messages = [] }) hs =
    folder_put hs _ c.args.folder _ c.args.place free.place new (c.from_vec-messages.ensures ∙ c.new.ensures.items)
    (c.in-Ok.ensures.items ∙ ap (λ (ks : List NumberedFolder). take c.args.place ks ++ h ∷ drop c.args.place ks) c.reserve.ensures.items) in
    let kept : c.insert.new.self.items ≡ put_keyed folder_number (record { folder = c.args.folder; messages = messages_of (held_in hs c.args.folder.number) }) hs = put
    ∙ ap (λ (xs : List Message). put_keyed folder_number (record { folder = c.args.folder; messages = xs }) hs) (sym (ap messages_of new)) in
    rw (← c.self.view_is) (mail_same _ _ _ _ _ _ kept refl c.max-self-inside.ensures)
