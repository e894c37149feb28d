use Rattle.std.proofs.Common.{◌∙◌, arith}
use Rattle.small_store.proofs.Fetching.{fetch_more}
use Rattle.small_store.proofs.fetches.push_fetches.Goals as goal

pub loop-at-preserved : goal.loop-at-preserved
loop-at-preserved c =
    fetch_more c.args.which c.args.asked c.args.messages.now c.loop-at.at c.index-messages-at.result c.loop-at.responses.items c.push_fetch.new.responses.items
    c.requires.order (omega arith) c.index-messages-at.is c.in_ok-push_fetch.ensures ∙ c.loop-at.invariant
