use Rattle.std.proofs.Common.{length}
use Rattle.std.specs.Option.{option_map}
use Rattle.mail_header.proofs.FieldLemmas.{LastWalked}
use Rattle.mail_header.proofs.blocks.last_field.Given as goal

abbrev pub invariant-loop-block : goal.invariant-loop-block
invariant-loop-block l = LastWalked l.name (option_map (λ t. t.now) l.found) l.rest l.bytes

abbrev pub decreases-loop-block : goal.decreases-loop-block
decreases-loop-block l = length l.rest
