use Rattle.std.proofs.Common.{ℤ, w64, subst, arith}
use Rattle.std.proofs.lemmas.Int.{to_z-of_z}
use Rattle.message_texts.specs.Messages.{IsMessageText}
use Rattle.message_texts.proofs.message.build.Goals as goal

pub returns-then-size-gt-MAX_MESSAGE_OCTETS-clause-refused :
    goal.returns-then-size-gt-MAX_MESSAGE_OCTETS-clause-refused
returns-then-size-gt-MAX_MESSAGE_OCTETS-clause-refused c = record {
  text = c.in_ok-outline.outline;
  is = subst (λ (now : ℤ). IsMessageText c.args.draft.now now c.args.word c.in_ok-outline.outline) (to_z-of_z w64 c.args.now c.ranges.now) c.in_ok-outline.ensures;
  longer = omega (arith, c.len-size.ensures, c.if-size-gt-MAX_MESSAGE_OCTETS.true);
  size_is = c.len-size.ensures;
}
