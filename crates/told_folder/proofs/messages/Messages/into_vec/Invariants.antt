use Rattle.std.proofs.Common.{◌≡◌, ◌+◌, ◌≤◌, vec_len, vec_capacity}
use Rattle.std.specs.BTreeMap.{btree_map_len}
use Rattle.told_folder.specs.reading.Parts.{all_of}
use Rattle.told_folder.proofs.messages.Messages.into_vec.Given as goal

abbrev pub invariant-loop-uid : goal.invariant-loop-uid
invariant-loop-uid l = record { all : all_of l.all l.after ≡ l.fn.self; room : vec_len l.all + btree_map_len l.after ≤ vec_capacity l.all }

abbrev pub decreases-loop-uid : goal.decreases-loop-uid
decreases-loop-uid l = btree_map_len l.after
