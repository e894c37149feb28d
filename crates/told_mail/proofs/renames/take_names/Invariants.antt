use Rattle.std.proofs.Common.{◌≡◌, ◌≤◌, ◌+◌, ◌++◌, ℕ, List, Option, map, vec_len, vec_capacity}
use Rattle.std.specs.VecDeque.{deque_len}
use Rattle.told_folder.specs.Index.{IsIndexed}
use Rattle.told_folder.specs.declared.message.NumberedFolder.{NumberedFolder}
use Rattle.told_mail.specs.reading.Renaming.{named_by}
use Rattle.told_mail.proofs.renames.take_names.Given as goal

abbrev pub decreases-loop-held : goal.decreases-loop-held
decreases-loop-held l = deque_len l.folders

abbrev pub invariant-loop-held : goal.invariant-loop-held
invariant-loop-held l = record {
  names : (name : NumberedFolder → Option (List ℕ)) → l.initial.names.items ≡ map name l.initial.folders.items → l.names.items ≡ map name l.folders.items;
  left : (name : NumberedFolder → Option (List ℕ)) → l.initial.names.items ≡ map name l.initial.folders.items
      → l.left.items ++ named_by name l.folders.items ≡ named_by name l.initial.folders.items;
  marks : (name : NumberedFolder → Option (List ℕ)) → l.initial.names.items ≡ map name l.initial.folders.items → (next_mark : ℕ)
      → IsIndexed l.initial.folders.items l.initial.marks next_mark → IsIndexed (l.left.items ++ l.folders.items) l.marks next_mark;
  room : vec_len l.left + deque_len l.folders ≤ vec_capacity l.left;
  same : deque_len l.names ≡ deque_len l.folders;
}
