use Rattle.std.proofs.Common.{ℕ, List, ◌+◌, Some, take, get_or, refl, sym, ap, ◌∙◌, arith}
use Rattle.pushdown.specs.Run.{run}
use Rattle.pushdown.specs.Symbols.{symbols_of}
use Rattle.pushdown.proofs.Leading.{run_more, run_on}
use Rattle.pushdown.proofs.Taking.{ready_run}
use Rattle.pushdown.proofs.Whole.{ready_can, ready_keeps}
use Rattle.pushdown.proofs.runs.advance_through.Goals as goal

pub advance_run-count-requires : goal.advance_run-count-requires
advance_run-count-requires g c =
    let machine = g.S.Symbol.automaton in
    let laws = c.loop-count.invariant.laws in
    ready_can machine laws (symbols_of c.loop-count.stack) c.loop-count.invariant.ready

pub advance_within-requires : goal.advance_within-requires
advance_within-requires g c =
    let machine = g.S.Symbol.automaton in
    let laws = c.loop-count.invariant.laws in
    ready_run machine laws (take c.advance_run-count.result c.split_at.result.1.now) (symbols_of c.loop-count.stack)
    (symbols_of c.advance_run-count.new.stack) c.loop-count.invariant.ready c.advance_run-count.ensures.run

pub returns-then-octets-count-clause-run : goal.returns-then-octets-count-clause-run
returns-then-octets-count-clause-run g c =
    let machine = g.S.Symbol.automaton in
    let laws = c.loop-count.invariant.laws in
    let first = symbols_of c.args.stack.now in
    let before = symbols_of c.loop-count.stack in
    let after = symbols_of c.advance_run-count.new.stack in
    let octets = c.args.octets.now in
    let count = c.loop-count.count in
    let more = c.advance_run-count.result in
    let on = run_on machine first before after octets count more c.loop-count.invariant.run
    (ap (λ (u : List ℕ). run machine (Some before) (take more u)) (sym c.split_at.ensures.back) ∙ c.advance_run-count.ensures.run) in
    on

pub returns-then-not-advance_within-clause-run : goal.returns-then-not-advance_within-clause-run
returns-then-not-advance_within-clause-run g c =
    let machine = g.S.Symbol.automaton in
    let laws = c.loop-count.invariant.laws in
    let first = symbols_of c.args.stack.now in
    let before = symbols_of c.loop-count.stack in
    let after = symbols_of c.advance_run-count.new.stack in
    let octets = c.args.octets.now in
    let count = c.loop-count.count in
    let more = c.advance_run-count.result in
    let on = run_on machine first before after octets count more c.loop-count.invariant.run
    (ap (λ (u : List ℕ). run machine (Some before) (take more u)) (sym c.split_at.ensures.back) ∙ c.advance_run-count.ensures.run) in
    on ∙ ap (λ (ss : List g.row.S.Denot). Some ss) (sym (c.advance_within.ensures.left c.if-not-advance_within.true))

pub loop-count-preserved : goal.loop-count-preserved
loop-count-preserved g c =
    let machine = g.S.Symbol.automaton in
    let laws = c.loop-count.invariant.laws in
    let first = symbols_of c.args.stack.now in
    let before = symbols_of c.loop-count.stack in
    let after = symbols_of c.advance_run-count.new.stack in
    let octets = c.args.octets.now in
    let count = c.loop-count.count in
    let more = c.advance_run-count.result in
    let on = run_on machine first before after octets count more c.loop-count.invariant.run
    (ap (λ (u : List ℕ). run machine (Some before) (take more u)) (sym c.split_at.ensures.back) ∙ c.advance_run-count.ensures.run) in
    let left = symbols_of c.advance_within.new.stack in
    let octet = get_or octets (count + more) 0 in
    let taken = c.advance_within.ensures.taken c.if-not-advance_within.false in
    let ready = ready_run machine laws (take more c.split_at.result.1.now) before after c.loop-count.invariant.ready c.advance_run-count.ensures.run in
    record {
      laws = laws;
      within = omega arith;
      run = run_more machine first after left octets (count + more) octet (omega arith) refl on taken;
      ready = ready_keeps machine laws after octet left ready taken;
      some = λ h. c.advance_within.ensures.some c.if-not-advance_within.false;
    }
