use Rattle.std.proofs.Common.{length}
use Rattle.message_lines.proofs.LineLemmas.{Goes}
use Rattle.message_texts.specs.AddressTexts.{AreAddressTexts}
use Rattle.message_texts.proofs.addresses.push_address_list.Given as goal

abbrev pub invariant-loop-rest : goal.invariant-loop-rest
invariant-loop-rest l = Goes (AreAddressTexts l.fn.line l.fn.list) (AreAddressTexts l.after l.rest) l.fn.line l.fn.text l.after l.text

abbrev pub decreases-loop-rest : goal.decreases-loop-rest
decreases-loop-rest l = length l.rest
