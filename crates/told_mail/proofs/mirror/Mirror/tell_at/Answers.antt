use Rattle.std.proofs.Common.{◌∙◌, sym, ap, subst, ◌<◌, List, refl, length}
use Rattle.told_folder.specs.declared.message.NumberedFolder.{NumberedFolder}
use Rattle.told_folder.specs.declared.message.Folder.{Folder}
use Rattle.told_folder.proofs.FolderLemmas.{ascend_in, held_same}
use Rattle.told_mail.proofs.ListLemmas.{on_ok_both}
use Rattle.told_mail.proofs.ToldLemmas.{here_at_place, indexed_told, told_at, below_set, below_get, number_kept}
use Rattle.told_mail.proofs.NameLemmas.{name_set, numbers_same}
use Rattle.told_mail.proofs.NumberLemmas.{numbers_set}
use Rattle.told_mail.proofs.mirror.Mirror.tell_at.Goals as goal

pub new-messages-requires : goal.new-messages-requires
new-messages-requires c =
    let hs : List NumberedFolder = c.self.inside.folders.items in
    let within : c.args.at < length hs = rw (← c.self.view_is) at c.requires in
    rw c.take_messages-taken.ensures.taken (ascend_in hs _ c.index_mut-held.result.now c.self.invariant.index.uids
    (sym (here_at_place hs c.args.at c.index_mut-held.result.now c.self.invariant.index.numbers within c.index_mut-held.ensures.value).found))

pub tell_exchange-done-requires : goal.tell_exchange-done-requires
tell_exchange-done-requires c =
    let hs : List NumberedFolder = c.self.inside.folders.items in
    let within : c.args.at < length hs = rw (← c.self.view_is) at c.requires in
    rw (c.new-messages.ensures, c.take_messages-taken.ensures.taken) (ascend_in hs _ c.index_mut-held.result.now c.self.invariant.index.uids
    (sym (here_at_place hs c.args.at c.index_mut-held.result.now c.self.invariant.index.numbers within c.index_mut-held.ensures.value).found))

pub invariant_of-self : goal.invariant_of-self
invariant_of-self c =
    let hs : List NumberedFolder = c.self.inside.folders.items in
    let within : c.args.at < length hs = rw (← c.self.view_is) at c.requires in
    record {
      index = (
          indexed_told hs c.args.at c.index_mut-held.result.now _ c.take_messages-taken.new.held.folder c.tell_exchange-done.new.folder c.self.inside.marks
          c.self.inside.next_mark
          (record {
            folder = c.take_messages-taken.new.held.folder.number;
            messages = c.new-messages.result;
            marks = c.replace-marks.result;
            next_mark = c.self.inside.next_mark;
            changes = c.self.inside.changes;
          })
          c.tell_exchange-done.new.work within c.index_mut-held.ensures.value c.self.invariant.index c.take_messages-taken.ensures.folder refl
          (c.new-messages.ensures ∙ c.take_messages-taken.ensures.taken) c.replace-marks.ensures.value refl c.tell_exchange-done.ensures.index
          c.tell_exchange-done.ensures.on.folder
          c.tell_exchange-done.ensures.keeps
          (held_same _ _ _ _ refl (c.from_vec.ensures ∙ c.into_vec-messages.ensures)));
      folders = below_set hs c.self.inside.next_folder c.args.at _
          (subst (λ n. n < c.self.inside.next_folder)
          (sym (number_kept c.take_messages-taken.new.held.folder c.tell_exchange-done.new.folder _ _ _ c.tell_exchange-done.ensures.keeps.same
          ∙ ap (λ
          (z : Folder). z.number) c.take_messages-taken.ensures.folder))
          (below_get hs c.self.inside.next_folder c.args.at c.index_mut-held.result.now c.self.invariant.folders within c.index_mut-held.ensures.value)) c.self.invariant.folders;
      names = numbers_same _ _ hs _ c.self.invariant.names (λ q. refl) (name_set hs c.args.at c.index_mut-held.result.now _ within c.index_mut-held.ensures.value
          (number_kept c.take_messages-taken.new.held.folder c.tell_exchange-done.new.folder _ _ _ c.tell_exchange-done.ensures.keeps.same
          ∙ ap (λ (z : Folder). z.number) c.take_messages-taken.ensures.folder)
          (ap (λ (z : Folder). z.name) (c.tell_exchange-done.ensures.keeps.same) ∙ ap (λ (z : Folder). z.name) c.take_messages-taken.ensures.folder));
    }

pub returns-clause-ok : goal.returns-clause-ok
returns-clause-ok c =
    let hs : List NumberedFolder = c.self.inside.folders.items in
    let within : c.args.at < length hs = rw (← c.self.view_is) at c.requires in
    rw (← c.self.view_is)
    (on_ok_both c.tell_exchange-done.result (λ told next k isk.
    told_at hs c.args.at c.index_mut-held.result.now k _ c.take_messages-taken.new.held.folder c.tell_exchange-done.new.folder c.self.inside.next_mark c.self.inside.next_folder
    c.args.command.now c.args.responses.now
    (record {
      folder = c.take_messages-taken.new.held.folder.number;
      messages = c.new-messages.result;
      marks = c.replace-marks.result;
      next_mark = c.self.inside.next_mark;
      changes = c.self.inside.changes;
    })
    c.tell_exchange-done.new.work c.self.invariant.index.numbers within c.index_mut-held.ensures.value isk c.take_messages-taken.ensures.folder
    (c.new-messages.ensures ∙ c.take_messages-taken.ensures.taken) refl c.tell_exchange-done.ensures.keeps told next
    (held_same _ _ _ _ refl (c.from_vec.ensures ∙ c.into_vec-messages.ensures))) c.tell_exchange-done.ensures.told c.tell_exchange-done.ensures.next_mark)

pub returns-clause-numbers : goal.returns-clause-numbers
returns-clause-numbers c =
    let hs : List NumberedFolder = c.self.inside.folders.items in
    let within : c.args.at < length hs = rw (← c.self.view_is) at c.requires in
    rw (← c.self.view_is)
    (numbers_set hs c.args.at c.index_mut-held.result.now _ c.self.inside.next_mark c.tell_exchange-done.new.work.next_mark c.self.inside.next_folder within
    c.index_mut-held.ensures.value
    (number_kept c.take_messages-taken.new.held.folder c.tell_exchange-done.new.folder _ _ _ c.tell_exchange-done.ensures.keeps.same
    ∙ ap (λ (z : Folder). z.number) c.take_messages-taken.ensures.folder))
