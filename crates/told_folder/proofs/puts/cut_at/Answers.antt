use Rattle.std.proofs.Common.{List, suc, ap, sym, ◌∙◌, take, drop, get_or, ◌++◌}
use Rattle.told_folder.specs.Folders.{uid_of}
use Rattle.told_folder.specs.declared.message.Message.{Message}
use Rattle.told_folder.proofs.FolderLemmas.{held_same}
use Rattle.told_folder.proofs.KeyedLemmas.{cut_held, held_found}
use Rattle.told_folder.proofs.puts.cut_at.Goals as goal

pub returns-clause-cut : goal.returns-clause-cut
returns-clause-cut c =
    held_same _ _ _ _ c.take_messages-messages.ensures.folder
    (c.from_vec.ensures ∙ c.remove-message.ensures.items ∙ ap (λ (xs : List Message). take c.args.at xs ++ drop (suc c.args.at) xs) c.take_messages-messages.ensures.taken
    ∙ sym (cut_held uid_of c.args.uid c.args.held.now.messages c.requires.ascends c.args.at c.requires.there))

pub returns-clause-message : goal.returns-clause-message
returns-clause-message c =
    sym (held_found uid_of c.args.uid c.args.held.now.messages c.requires.ascends c.args.at c.requires.there c.remove-message.result
    (c.remove-message.ensures.value ∙ ap (λ (xs : List Message). get_or xs c.args.at c.remove-message.result) c.take_messages-messages.ensures.taken))
