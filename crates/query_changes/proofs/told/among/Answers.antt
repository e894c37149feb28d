use Rattle.std.proofs.Common.{nat_cmp}
use Rattle.std.specs.BTreeSet.{contains}
use Rattle.told_folder.proofs.KeyedLemmas.{get_or-defaults}
use Rattle.query_changes.proofs.ToldLemmas.{told_more}
use Rattle.query_changes.proofs.told.among.Goals as goal

pub loop-index-preserved : goal.loop-index-preserved
loop-index-preserved c =
    told_more (contains nat_cmp c.args.ids.now) c.args.list.now c.loop-index.index _ c.contains.result c.loop-index.added.items c.add_if.new.added.items _
    c.loop-index-test.true (get_or-defaults c.args.list.now c.loop-index.index 0 c.loop-index-test.true) c.contains.ensures c.in_ok-add_if.ensures c.loop-index.invariant
