use Rattle.std.proofs.Common.{ℕ, List, ◌++◌, length, take, drop, sym, ap, ◌∙◌, arith, take-append-drop}
use Rattle.std.proofs.lemmas.List.{length-drop}
use Rattle.loose_addresses.proofs.ElementLemmas.{lump_moves}
use Rattle.loose_addresses.proofs.OutsideLemmas.{found_first, found_more, none_separated, found_all}
use Rattle.loose_addresses.proofs.outside.last_outside.Goals as goal

pub loop-at-init : goal.loop-at-init
loop-at-init c = record { within = omega arith; found = found_first c.args.text.now }

pub returns-in_default : goal.returns-in_default
returns-in_default c = none_separated c.loop-at.found c.loop-at.at c.args.text.now c.loop-at.invariant.found c.loop-at-test.true c.in_default.ensures

pub overflow_add-at : goal.overflow_add-at
overflow_add-at c =
    let m = lump_moves c.loop-at.at c.in-Some.len c.args.text.now c.loop-at.invariant.within c.in-Some.ensures in
    omega (arith, m.within)

pub split_at-requires-in-loop-at : goal.split_at-requires-in-loop-at
split_at-requires-in-loop-at c =
    let m = lump_moves c.loop-at.at c.in-Some.len c.args.text.now c.loop-at.invariant.within c.in-Some.ensures in
    omega (arith, m.within, ap length c.split_at.ensures.back, length-drop c.loop-at.at c.args.text.now)

pub loop-at-smaller : goal.loop-at-smaller
loop-at-smaller c =
    let m = lump_moves c.loop-at.at c.in-Some.len c.args.text.now c.loop-at.invariant.within c.in-Some.ensures in
    omega (arith, m.some, m.within, c.loop-at-test.true)

pub with_lump-found-requires-clause-lump : goal.with_lump-found-requires-clause-lump
with_lump-found-requires-clause-lump c = (
  c.split_at-in-loop-at.result.1.now,
  sym c.split_at.ensures.back ∙ sym (take-append-drop c.in-Some.len c.split_at.result.1.now)
      ∙ ap (λ (u : List ℕ). u ++ drop c.in-Some.len c.split_at.result.1.now) (sym c.split_at-in-loop-at.ensures.front)
      ∙ ap (λ (u : List ℕ). c.split_at-in-loop-at.result.0.now ++ u) (sym c.split_at-in-loop-at.ensures.back),
)

pub loop-at-preserved : goal.loop-at-preserved
loop-at-preserved c =
    let t = c.args.text.now in
    let m = lump_moves c.loop-at.at c.in-Some.len t c.loop-at.invariant.within c.in-Some.ensures in
    record {
      within = m.within;
      found = found_more c.loop-at.found c.with_lump-found.result c.loop-at.at c.in-Some.len t c.split_at-in-loop-at.result.0.now c.loop-at.invariant.found c.in-Some.ensures
          (c.split_at-in-loop-at.ensures.front ∙ ap (take c.in-Some.len) c.split_at.ensures.back) c.with_lump-found.ensures;
    }

pub returns : goal.returns
returns c = found_all c.loop-at.found c.loop-at.at c.args.text.now (omega (arith, c.loop-at-test.false)) c.loop-at.invariant.found
