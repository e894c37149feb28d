use Rattle.std.proofs.Common.{◌≡◌}
use Rattle.std.specs.Vec.Iter.{into_iter_items}
use Rattle.query_arguments.specs.Readings.{each_read}
use Rattle.query_arguments.proofs.ReadingLemmas.{continued}
use Rattle.query_arguments.proofs.reading.each_read.Given as goal

-- what all parts mean is what those so far mean together with those that are left
abbrev pub invariant-loop-part : goal.invariant-loop-part
invariant-loop-part g l = record {
  can_next : (goal.iterator-loop-part g).can_next l.part-iterator;
  ends : (goal.iterator-loop-part g).is_finite l.part-iterator;
  same : each_read l.fn.parts.items ≡ continued l.supported l.values.items (each_read (into_iter_items l.part-iterator));
}
