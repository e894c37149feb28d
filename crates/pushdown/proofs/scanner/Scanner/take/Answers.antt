use Rattle.std.proofs.Common.{◌+◌, [], ◌∷◌, ◌++◌, arith, length-append}
use Rattle.pushdown.specs.Symbols.{symbols_of}
use Rattle.pushdown.proofs.Marks.{both}
use Rattle.pushdown.proofs.Whole.{ready_keeps, ready_can}
use Rattle.pushdown.specs.Run.{inside_top}
use Rattle.pushdown.specs.Flow.{left_of}
use Rattle.pushdown.proofs.Marks.{bound_keeps, step_left}
use Rattle.pushdown.proofs.ScannerLemmas.{cost_is, mark_is, bad_by_limit, bad_by_step, went_is, goes_on, nothing_left}
use Rattle.pushdown.proofs.scanner.Scanner.take.Goals as goal

pub returns-then-limit-self : goal.returns-then-limit-self
returns-then-limit-self g c =
    let machine = g.S.Symbol.automaton in
    let laws = c.lawful.ensures in
    let inside = c.is_inside-inside in
    let cost = c.cost_of-cost in
    λ b fed.
    let s = c.args.self.now in
    let ss = symbols_of s.stack in (
      fed.taken,
      bad_by_limit machine laws ss s.outside b c.args.octet cost.result fed.stands (omega (arith, c.ranges.octet.fits))
          (cost_is machine laws ss inside.result cost.result inside.ensures cost.ensures) (omega (arith, c.if-limit-self.true, c.limit-limit.ensures)),
    )

pub returns-then-not-advance : goal.returns-then-not-advance
returns-then-not-advance g c =
    let machine = g.S.Symbol.automaton in
    let laws = c.lawful.ensures in
    let inside = c.is_inside-inside in
    let marked = c.marked_by-marked in
    λ b fed.
    let s = c.args.self.now in
    let ss = symbols_of s.stack in (
      fed.taken,
      bad_by_step machine laws ss (symbols_of c.advance.new.stack) s.outside b c.args.octet marked.result c.advance.result fed.stands (omega (arith, c.ranges.octet.fits))
          (mark_is machine laws ss inside.result c.args.octet marked.result inside.ensures marked.ensures) c.advance.ensures
          c.if-not-advance.true,
    )

pub returns-then-is_empty : goal.returns-then-is_empty
returns-then-is_empty g c =
    let machine = g.S.Symbol.automaton in
    let laws = c.lawful.ensures in
    let inside = c.is_inside-inside in
    let cost = c.cost_of-cost in
    let marked = c.marked_by-marked in
    λ b fed.
    let s = c.args.self.now in
    let ss = symbols_of s.stack in
    let left = symbols_of c.advance.new.stack in
    let step = went_is machine laws ss left c.args.octet marked.result c.advance.result
    (mark_is machine laws ss inside.result c.args.octet marked.result inside.ensures marked.ensures) c.advance.ensures c.if-not-advance.false
    in
    let on = goes_on machine laws ss left s.outside b c.args.octet cost.result fed.stands (omega (arith, c.ranges.octet.fits))
    (cost_is machine laws ss inside.result cost.result inside.ensures cost.ensures) (omega (arith, c.if-limit-self.false, c.limit-limit.ensures)) step in
    (omega (arith, fed.taken), nothing_left machine laws left (s.outside + cost.result) (b ++ c.args.octet ∷ []) (c.is_empty.ensures.0 c.if-is_empty.true) on)

pub returns-else-is_empty : goal.returns-else-is_empty
returns-else-is_empty g c =
    let machine = g.S.Symbol.automaton in
    let laws = c.lawful.ensures in
    let inside = c.is_inside-inside in
    let cost = c.cost_of-cost in
    let marked = c.marked_by-marked in
    λ b fed.
    let s = c.args.self.now in
    let ss = symbols_of s.stack in
    let left = symbols_of c.advance.new.stack in
    let step = went_is machine laws ss left c.args.octet marked.result c.advance.result
    (mark_is machine laws ss inside.result c.args.octet marked.result inside.ensures marked.ensures) c.advance.ensures c.if-not-advance.false
    in
    let on = goes_on machine laws ss left s.outside b c.args.octet cost.result fed.stands (omega (arith, c.ranges.octet.fits))
    (cost_is machine laws ss inside.result cost.result inside.ensures cost.ensures) (omega (arith, c.if-limit-self.false, c.limit-limit.ensures)) step in
    record {
      ready = ready_keeps machine laws ss _ left fed.ready step;
      more = λ e. both _ (c.is_empty.ensures.1 e) c.if-is_empty.false;
      stands = on;
      taken = omega (arith, fed.taken, length-append b (c.args.octet ∷ []));
      bound = bound_keeps machine.most (inside_top machine ss) s.taken s.outside cost.result (left_of machine ss) (left_of machine left)
          (cost_is machine laws ss inside.result cost.result inside.ensures cost.ensures) (step_left machine laws ss _ left fed.ready.0 step) fed.bound;
    }

pub advance-requires : goal.advance-requires
advance-requires g c =
    let machine = g.S.Symbol.automaton in
    let laws = c.lawful.ensures in
    ready_can machine laws (symbols_of c.args.self.now.stack) c.requires.1.ready
