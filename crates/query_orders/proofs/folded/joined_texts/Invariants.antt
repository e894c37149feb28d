use Rattle.std.proofs.Common.{◌≡◌, ◌++◌, drop, map}
use Rattle.std.specs.Option.{option_copied}
use Rattle.query_orders.specs.reading.Joined.{joined}
use Rattle.query_orders.proofs.folded.joined_texts.Given as goal

-- those so far, and those of the rest
abbrev pub invariant-loop-text : goal.invariant-loop-text
invariant-loop-text l = l.octets.items ++ joined (map option_copied (drop l.text-index l.texts)) ≡ joined (map option_copied l.texts)
