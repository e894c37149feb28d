use Rattle.std.proofs.Common.{◌≡◌, List, ap, sym, ◌∙◌, take, drop, ◌++◌, ◌∷◌}
use Rattle.told_folder.specs.Folders.{uid_of}
use Rattle.told_folder.specs.Keyed.{put_keyed}
use Rattle.told_folder.specs.Places.{IsPlace}
use Rattle.told_folder.specs.declared.message.Message.{Message}
use Rattle.told_folder.proofs.FolderLemmas.{held_same}
use Rattle.told_folder.proofs.KeyedLemmas.{put_at_place}
use Rattle.told_folder.proofs.puts.put_in.Goals as goal
use Rattle.told_folder.proofs.puts.put_in.Goals.{in-Ok, in-Err}

pub returns-clause-ok : goal.returns-clause-ok
returns-clause-ok c =
    let place : IsPlace uid_of c.args.message.uid c.args.held.now.messages c.place_of-place.result = rw (c.as_slice.ensures, c.from.ensures) at c.place_of-place.ensures in
    let put : put_keyed uid_of c.args.message c.args.held.now.messages ≡ take c.place_of-place.result c.args.held.now.messages
    ++ c.args.message ∷ drop c.place_of-place.result c.args.held.now.messages =
    put_at_place uid_of c.args.message c.args.held.now.messages c.place_of-place.result place c.requires.free in
    elim c.match-insert.branch [
      | in-Ok w ↦
          let items : w.from_vec.result ≡ put_keyed uid_of c.args.message c.args.held.now.messages =
          w.from_vec.ensures ∙ w.in-Ok.ensures.items ∙ ap (λ (xs : List Message). take c.place_of-place.result xs
          ++ c.args.message ∷ drop c.place_of-place.result xs) c.take_messages-messages.ensures.taken ∙ sym put in
          rw w.result-is (w.held-is ∙ held_same _ _ _ _ c.take_messages-messages.ensures.folder items)
      | in-Err w ↦ rw w.result-is tt
    ]
