use Rattle.std.proofs.Common.{◌≡◌, ℕ, map, take}
use Rattle.std.specs.VecDeque.{deque_len}
use Rattle.told_mail.specs.Mail.{IsMail}
use Rattle.told_mail.specs.reading.Index.{AreNumbers}
use Rattle.told_mail.specs.reading.Renaming.{name_of, named_by}
use Rattle.told_mail.proofs.renames.renamed.Given as goal

abbrev pub invariant-loop-held : goal.invariant-loop-held
invariant-loop-held l = record {
  names : l.names.items ≡ map (name_of l.from l.to l.folders) (take l.held-index l.folders);
  len : deque_len l.names ≡ l.held-index;
  numbers : (next_mark next_folder : ℕ) → IsMail (record { folders = l.folders; next_mark = next_mark; next_folder = next_folder })
      → AreNumbers (named_by (name_of l.from l.to l.folders) (take l.held-index l.folders)) l.numbers;
}
