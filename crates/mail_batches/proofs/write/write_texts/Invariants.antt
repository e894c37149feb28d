use Rattle.std.proofs.Common.{◌≡◌, ◌++◌, length, take}
use Rattle.std.specs.List.{flat_map}
use Rattle.mail_batches.specs.Items.{long, text}
use Rattle.mail_batches.proofs.write.write_texts.Given as goal

abbrev pub invariant-loop-name : goal.invariant-loop-name
invariant-loop-name l = l.out.items ≡ l.fn.out.items ++ (long (length l.fn.names) ++ flat_map text (take l.name-index l.fn.names))
