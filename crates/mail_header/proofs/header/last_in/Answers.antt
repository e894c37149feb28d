use Rattle.std.proofs.Common.{◌-◌, sym, ◌∙◌, arith}
use Rattle.mail_header.proofs.FieldLemmas.{last_read}
use Rattle.mail_header.proofs.header.last_in.Goals as goal

pub returns-then-same_text : goal.returns-then-same_text
returns-then-same_text c =
    last_read c.args.name.now c.args.list.now (c.loop-at.at - 1) c.loop-at.at _ (omega (arith, c.loop-at.invariant.within, c.loop-at-test.true)) (omega
    (arith, c.loop-at-test.true)) (sym c.same_text.ensures.test ∙ c.if-same_text.true) c.loop-at.invariant.none
