use Rattle.std.proofs.Common.{◌≡◌, ℕ, subst, arith}
use Rattle.loose_addresses.specs.reading.ElementSteps.{EndsLumps}
use Rattle.loose_addresses.proofs.ElementLemmas.{lump_moves}
use Rattle.loose_addresses.proofs.OutsideLemmas.{ends_first, ends_more, not_past_separator, not_within}
use Rattle.loose_addresses.proofs.lumps.ends_lumps.Goals as goal

pub loop-at-init : goal.loop-at-init
loop-at-init c = record { within = omega arith; lumps = ends_first c.args.text.now }

pub returns-in_default : goal.returns-in_default
returns-in_default c =
    not_past_separator c.loop-at.at c.args.place c.args.text.now c.loop-at.invariant.lumps c.loop-at-test.true c.requires.within c.in_default.ensures

pub returns-then-left-len : goal.returns-then-left-len
returns-then-left-len c =
    not_within c.loop-at.at c.in-Some.len c.args.place c.args.text.now c.loop-at.invariant.lumps c.in-Some.ensures c.loop-at-test.true
    (omega (arith, c.if-left-len.true, c.loop-at.invariant.within)) c.requires.within

pub returns : goal.returns
returns c =
    let e : c.loop-at.at ≡ c.args.place = omega (arith, c.loop-at.invariant.within, c.loop-at-test.false) in
    subst (λ (n : ℕ). EndsLumps n c.args.text.now) e c.loop-at.invariant.lumps

pub loop-at-smaller : goal.loop-at-smaller
loop-at-smaller c =
    let m = lump_moves c.loop-at.at c.in-Some.len c.args.text.now (omega (arith, c.loop-at.invariant.within, c.requires.within)) c.in-Some.ensures in
    omega (arith, m.some, c.loop-at-test.true)

pub loop-at-preserved : goal.loop-at-preserved
loop-at-preserved c = record {
  within = omega (arith, c.if-left-len.false, c.loop-at.invariant.within);
  lumps = ends_more c.loop-at.at c.in-Some.len c.args.text.now c.loop-at.invariant.lumps c.in-Some.ensures;
}
