use Rattle.std.proofs.Common.{◌≡◌, ◌++◌, map, filter, drop}
use Rattle.small_store.specs.reading.Fetches.{is_asked, response_of}
use Rattle.small_store.proofs.fetches.push_fetches.Given as goal

abbrev pub invariant-loop-at : goal.invariant-loop-at
invariant-loop-at l =
    l.responses.items ++ map (response_of l.asked l.messages) (filter (is_asked l.which) (drop l.at l.messages))
    ≡ l.initial.responses.items ++ map (response_of l.asked l.messages) (filter (is_asked l.which) l.messages)
