use Rattle.std.proofs.Common.{◌≡◌, true}
use Rattle.set_given.specs.Given.{Given}
use Rattle.set_given.specs.reading.Givens.{IsGiven}
use Rattle.email_import.specs.Asked.{is_import_value}
use Rattle.email_import.proofs.MemberLemmas.{RightBefore}
use Rattle.email_import.proofs.members.wrong_member.Given as goal

-- those that are before what is left are right
abbrev pub invariant-loop-key : goal.invariant-loop-key
invariant-loop-key l = (g : Given) → IsGiven l.given g → RightBefore (λ k d. is_import_value g k d ≡ true) l.properties.entries l.key-iterator
