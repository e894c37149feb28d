use Rattle.std.proofs.Common.{◌∙◌, sym}
use Rattle.thread_rule.proofs.LowerLemmas.{none_fed, piece_fed, all_fed, none_more}
use Rattle.thread_rule.proofs.key.feed_lower.Goals as goal

pub loop-rest-init : goal.loop-rest-init
loop-rest-init c = none_fed c.args.hasher.now c.args.text.now

pub loop-rest-preserved : goal.loop-rest-preserved
loop-rest-preserved c =
    piece_fed c.args.hasher.now c.loop-rest.hasher c.feed_piece.new.hasher c.args.text.now c.loop-rest.rest.now c.next_piece.result.0.now c.next_piece.result.1.now
    c.loop-rest.invariant c.next_piece.ensures.whole c.feed_piece.ensures

pub returns : goal.returns
returns c =
    all_fed c.args.hasher.now c.loop-rest.hasher c.args.text.now c.loop-rest.rest.now c.loop-rest.invariant
    (none_more c.loop-rest.rest.now (sym c.is_empty.ensures ∙ c.loop-rest-test.false))
