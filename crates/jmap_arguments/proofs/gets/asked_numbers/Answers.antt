use Rattle.std.proofs.Common.{map}
use Rattle.jmap_arguments.proofs.GetLemmas.{asked_by_ids, asked_by_null, none_seen}
use Rattle.jmap_arguments.proofs.gets.asked_numbers.Goals as goal

pub returns-in_ok-numbers_with-in-Some-clause-asked : goal.returns-in_ok-numbers_with-in-Some-clause-asked
returns-in_ok-numbers_with-in-Some-clause-asked g c =
    let asked = c.in_ok-numbers_with-in-Some.field-0 in
    rw c.in-Some.is (asked_by_ids c.args.letter (g.T.Numbers.numbers c.args.there.now) (map (λ t. t.now) c.in-Some.ids.items)
    (map (λ t. t.now) c.in_ok-once-in-Some.once.items) asked.numbers.items (map (λ t. t.now) asked.missing.items)
    c.in_ok-once-in-Some.ensures c.in_ok-numbers_with-in-Some.ensures.numbers c.in_ok-numbers_with-in-Some.ensures.missing)

pub returns-in_ok-numbers-in-None-clause-asked : goal.returns-in_ok-numbers-in-None-clause-asked
returns-in_ok-numbers-in-None-clause-asked g c =
    let there = g.T.Numbers.numbers c.args.there.now in
    rw c.in-None.is (asked_by_null c.args.letter there c.in_ok-numbers-in-None.numbers.items (map (λ t. t.now) c.new-missing.result.items)
    c.count-count.result c.in_ok-check_count-in-None.field-0
    c.in_ok-check_count-in-None.ensures c.count-count.ensures.count c.in_ok-numbers-in-None.ensures (none_seen c.new-missing.result.items (λ t. t.now) c.new-missing.ensures.items))
