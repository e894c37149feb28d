use Rattle.std.proofs.Common.{◌≡◌, ◌++◌, nat_cmp, drop}
use Rattle.std.specs.BTreeSet.{contains}
use Rattle.query_changes.proofs.ToldLemmas.{told_from}
use Rattle.query_changes.proofs.told.among.Given as goal

-- those so far, and those of the rest
abbrev pub invariant-loop-index : goal.invariant-loop-index
invariant-loop-index l = l.added.items ++ told_from (contains nat_cmp l.ids) l.index (drop l.index l.list) ≡ told_from (contains nat_cmp l.ids) 0 l.list
