use Rattle.std.proofs.Common.{arith}
use Rattle.message_blobs.proofs.LeafLemmas.{told_none, told_some, starts, leads_on, leads_nowhere, ends}
use Rattle.message_blobs.proofs.nested_leaves.leaf_octets.Goals as goal

pub loop-number-init : goal.loop-number-init
loop-number-init c = starts c.args.leaves.now c.in_ok-message.message c.args.octets.now c.in_ok-message.ensures

pub loop-number-preserved : goal.loop-number-preserved
loop-number-preserved c =
    let spells = told_some c.in_ok-leaf_of.field-0 c.in-Some.leaf _ _ c.in_ok-leaf_of.ensures c.in-Some.is in
    leads_on c.loop-number.number-index c.loop-number.message c.in-Some.leaf c.args.leaves.now c.args.octets.now c.loop-number-test.true c.loop-number.invariant spells

pub returns-in-None : goal.returns-in-None
returns-in-None c =
    let none = told_none c.in_ok-leaf_of.field-0 _ _ c.in_ok-leaf_of.ensures c.in-None.is in
    leads_nowhere c.loop-number.number-index c.loop-number.message c.args.leaves.now c.args.octets.now c.loop-number-test.true c.loop-number.invariant none

pub returns : goal.returns
returns c = ends c.loop-number.number-index c.loop-number.message c.args.leaves.now c.args.octets.now (omega arith) c.loop-number.invariant
