use Rattle.std.proofs.Common.{false}
use Rattle.thread_rule.proofs.IndexLemmas.{none_set, keys_turn, all_set}
use Rattle.thread_rule.proofs.index.remove_all.Goals as goal

pub loop-id-init : goal.loop-id-init
loop-id-init c = none_set c.args.index.now c.args.base.now c.args.ids.now c.as_text-rest.result.now c.args.email false c.as_text-rest.ensures

pub loop-id-preserved : goal.loop-id-preserved
loop-id-preserved c =
    keys_turn c.args.index.now c.loop-id.index c.remove.new.self c.args.base.now c.args.ids.now c.loop-id.rest.now c.in-Some.id.now c.in-Some.more.now c.key_under-key.result
    c.args.email false c.loop-id.invariant c.in-Some.ensures.ids c.key_under-key.ensures
    c.remove.ensures

pub returns : goal.returns
returns c =
    all_set c.args.index.now c.loop-id.index c.args.base.now c.args.ids.now c.loop-id.rest.now c.args.email false c.loop-id.invariant c.in_default.ensures.ids
