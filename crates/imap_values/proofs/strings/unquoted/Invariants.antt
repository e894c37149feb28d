use Rattle.std.proofs.Common.{◌≡◌, drop, false}
use Rattle.imap_values.specs.Strings.{unquoted}
use Rattle.imap_values.proofs.StringLemmas.{so_far}
use Rattle.imap_values.proofs.strings.unquoted.Given as goal

abbrev pub invariant-loop-i : goal.invariant-loop-i
invariant-loop-i l = so_far l.text.items (unquoted l.pair (drop l.i l.bytes)) ≡ unquoted false l.bytes
