use Rattle.std.proofs.Common.{List, ℕ, sym, subst, arith}
use Rattle.loose_addresses.specs.reading.TornSteps.{BeginsTorn}
use Rattle.loose_addresses.proofs.TornLemmas.{none_first, none_step, torn_here, none_torn, unit_moves}
use Rattle.loose_addresses.proofs.torn.has_torn.Goals as goal

pub loop-at-init : goal.loop-at-init
loop-at-init c = record { within = omega arith; none = none_first c.args.text.now }

pub returns-then-begins_torn : goal.returns-then-begins_torn
returns-then-begins_torn c =
    torn_here c.loop-at.at c.args.text.now c.loop-at.invariant.none (subst (λ (u : List ℕ). BeginsTorn u) c.split_at.ensures.back c.if-begins_torn.ensures)

pub overflow_add-at : goal.overflow_add-at
overflow_add-at c =
    let m = unit_moves c.loop-at.at c.unit_len-at.result c.args.text.now c.loop-at.invariant.within c.unit_len-at.ensures in
    omega (arith, m.within)

pub loop-at-smaller : goal.loop-at-smaller
loop-at-smaller c =
    let m = unit_moves c.loop-at.at c.unit_len-at.result c.args.text.now c.loop-at.invariant.within c.unit_len-at.ensures in
    omega (arith, m.some, m.within, c.loop-at-test.true)

pub loop-at-preserved : goal.loop-at-preserved
loop-at-preserved c =
    let t = c.args.text.now in
    let m = unit_moves c.loop-at.at c.unit_len-at.result t c.loop-at.invariant.within c.unit_len-at.ensures in
    record {
      within = m.within;
      none = none_step c.loop-at.at c.unit_len-at.result t c.loop-at.invariant.none c.unit_len-at.ensures
          (λ b. c.if-begins_torn.ensures (subst (λ (u : List ℕ). BeginsTorn u) (sym c.split_at.ensures.back) b));
    }

pub returns : goal.returns
returns c = none_torn c.loop-at.at c.args.text.now (omega (arith, c.loop-at-test.false)) c.loop-at.invariant.none
