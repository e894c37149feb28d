use Rattle.std.proofs.Common.{arith}
use Rattle.mail_batches.proofs.Texts.{text_more, text_wrong, texts_begin, texts_done}
use Rattle.mail_batches.proofs.reading.some_texts_of.Goals as goal

pub loop-at-init : goal.loop-at-init
loop-at-init c = rw c.new-texts.ensures (texts_begin c.args.count c.args.octets.now)

pub loop-at-preserved : goal.loop-at-preserved
loop-at-preserved c =
    rw (c.in_ok-push.ensures.ok, c.in_ok-copy_of.ensures)
    (text_more c.args.count c.loop-at.at c.args.octets.now c.loop-at.rest.now c.in-Some.more.now c.in-Some.text.now c.loop-at.texts c.loop-at-test.true c.in-Some.ensures
    c.loop-at.invariant)

pub returns-in_default : goal.returns-in_default
returns-in_default c =
    text_wrong c.args.count c.loop-at.at c.args.octets.now c.loop-at.rest.now c.loop-at.texts c.loop-at-test.true c.in_default.ensures c.loop-at.invariant

pub returns : goal.returns
returns c = texts_done c.args.count c.loop-at.at c.args.octets.now c.loop-at.rest.now c.loop-at.texts (omega arith) c.loop-at.invariant
