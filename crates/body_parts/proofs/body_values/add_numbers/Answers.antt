use Rattle.std.proofs.Common.{nat_cmp, refl}
use Rattle.std.specs.BTreeSet.{contains}
use Rattle.body_parts.proofs.ValueLemmas.{among_more}
use Rattle.body_parts.proofs.body_values.add_numbers.Goals as goal

pub loop-number-preserved : goal.loop-number-preserved
loop-number-preserved c n =
    among_more c.args.numbers.now c.loop-number.number-index _ n (contains nat_cmp c.args.fetched.now n) (contains nat_cmp c.loop-number.fetched n)
    (contains nat_cmp c.add_number.new.fetched n) c.loop-number-test.true refl (c.loop-number.invariant n) (c.in_ok-add_number.ensures n)
