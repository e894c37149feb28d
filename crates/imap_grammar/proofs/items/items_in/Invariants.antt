use Rattle.std.proofs.Common.{◌≡◌}
use Rattle.imap_types.specs.Items.{no_items}
use Rattle.imap_grammar.specs.reading.ItemReading as reading
use Rattle.imap_grammar.proofs.items.items_in.Given as goal

abbrev pub invariant-loop-left : goal.invariant-loop-left
invariant-loop-left l = reading.items_in l.left l.items l.rest ≡ reading.items_in l.fn.most no_items l.fn.bytes

abbrev pub decreases-loop-left : goal.decreases-loop-left
decreases-loop-left l = l.left
