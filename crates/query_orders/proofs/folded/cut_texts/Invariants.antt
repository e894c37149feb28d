use Rattle.std.proofs.Common.{◌≡◌, ◌++◌, drop, map}
use Rattle.std.specs.Option.{option_copied, option_map}
use Rattle.query_orders.specs.Texts.{folded}
use Rattle.query_orders.specs.reading.Joined.{joined}
use Rattle.query_orders.proofs.folded.cut_texts.Given as goal

-- the texts so far, and those of the rest; the octets that are left are those of the rest
abbrev pub invariant-loop-text : goal.invariant-loop-text
invariant-loop-text l = record {
  texts : l.keys.items ++ map (option_map folded) (map option_copied (drop l.text-index l.texts)) ≡ map (option_map folded) (map option_copied l.texts);
  octets : l.left ≡ folded (joined (map option_copied (drop l.text-index l.texts)));
}
