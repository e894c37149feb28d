use Rattle.std.proofs.Common.{arith}
use Rattle.loose_addresses.proofs.ElementLemmas.{element_ends, element_more, lump_moves}
use Rattle.loose_addresses.proofs.elements.element_len.Goals as goal

pub returns-in_default-clause-element : goal.returns-in_default-clause-element
returns-in_default-clause-element c = element_ends c.loop-at.at c.args.text.now c.loop-at.invariant.element

pub returns-clause-element : goal.returns-clause-element
returns-clause-element c = element_ends c.loop-at.at c.args.text.now c.loop-at.invariant.element

pub overflow_add-at : goal.overflow_add-at
overflow_add-at c =
    let m = lump_moves c.loop-at.at c.in-Some.len c.args.text.now c.loop-at.invariant.within c.in-Some.ensures in
    omega (arith, m.within)

pub loop-at-smaller : goal.loop-at-smaller
loop-at-smaller c =
    let m = lump_moves c.loop-at.at c.in-Some.len c.args.text.now c.loop-at.invariant.within c.in-Some.ensures in
    omega (arith, m.some, m.within, c.loop-at-test.true)

pub loop-at-preserved : goal.loop-at-preserved
loop-at-preserved c =
    let t = c.args.text.now in
    let m = lump_moves c.loop-at.at c.in-Some.len t c.loop-at.invariant.within c.in-Some.ensures in
    record {
      within = m.within;
      element = element_more c.loop-at.at c.in-Some.len t c.loop-at.invariant.element c.in-Some.ensures;
    }
