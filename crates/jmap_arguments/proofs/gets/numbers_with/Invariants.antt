use Rattle.std.proofs.Common.{◌≡◌, ◌++◌, drop, map, is_none}
use Rattle.std.specs.List.{filter, filter_map}
use Rattle.jmap_arguments.specs.Gets.{number_with}
use Rattle.jmap_arguments.proofs.gets.numbers_with.Given as goal

-- what is asked by all is what is asked so far, and then what is asked by the rest
abbrev pub invariant-loop-id : goal.invariant-loop-id
invariant-loop-id g l =
    let found = number_with l.letter (g.T.Numbers.numbers l.there) in
    record {
      numbers : filter_map found (map (λ t. t.now) l.id-items) ≡ l.numbers.items ++ filter_map found (map (λ t. t.now) (drop l.id-index l.id-items));
      missing : filter (λ id. is_none (found id)) (map (λ t. t.now) l.id-items)
          ≡ map (λ t. t.now) l.missing.items ++ filter (λ id. is_none (found id)) (map (λ t. t.now) (drop l.id-index l.id-items));
    }
