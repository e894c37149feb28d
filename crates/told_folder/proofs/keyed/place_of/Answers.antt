use Rattle.std.proofs.Common.{ltb, ltb-true, ltb-false, arith, rules}
use Rattle.std.proofs.lemmas.List.Sorted.{IsPartitionPoint-from_clause, IsPartitionedBy-ltb}
use Rattle.told_folder.proofs.KeyedLemmas.{non_decreasing}
use Rattle.told_folder.proofs.keyed.place_of.Goals as goal

pub returns : goal.returns
returns g c =
    let key = g.T.Keyed.key_of in
    let parted = IsPartitionedBy-ltb key _ c.args.key (non_decreasing key _ c.requires) in
    let point = IsPartitionPoint-from_clause (λ x. ltb (key x) c.args.key) _ _ c.partition_point.ensures.partitioned parted (λ a r q k. search rules) in
    record {
      within = c.partition_point.ensures.bound;
      before = λ i d h. ltb-true _ _ (point.0 i d (omega arith) h);
      from = λ i d h l. ltb-false _ _ (point.1 i d h l);
    }
