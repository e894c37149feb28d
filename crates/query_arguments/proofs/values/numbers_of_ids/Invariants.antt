use Rattle.std.proofs.Common.{◌≡◌, drop, map, nat_cmp}
use Rattle.mail_maps.specs.Keywords.{sorted_into}
use Rattle.mail_maps.specs.Threads.{distinct}
use Rattle.query_arguments.specs.Values.{numbers_of_ids}
use Rattle.query_arguments.proofs.values.numbers_of_ids.Given as goal

-- those so far and those of the ids that are left are those of all
abbrev pub invariant-loop-id : goal.invariant-loop-id
invariant-loop-id l = sorted_into nat_cmp l.numbers.keys (numbers_of_ids (map (λ t. t.now) (drop l.id-index l.ids.items)))
    ≡ distinct (numbers_of_ids (map (λ t. t.now) l.ids.items))
