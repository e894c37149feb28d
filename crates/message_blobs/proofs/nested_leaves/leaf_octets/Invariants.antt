use Rattle.std.proofs.Common.{drop}
use Rattle.message_blobs.proofs.LeafLemmas.{Leads}
use Rattle.message_blobs.proofs.nested_leaves.leaf_octets.Given as goal

abbrev pub invariant-loop-number : goal.invariant-loop-number
invariant-loop-number l = Leads (drop l.number-index l.leaves) l.message l.leaves l.octets
