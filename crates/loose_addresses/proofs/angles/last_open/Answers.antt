use Rattle.std.proofs.Common.{List, ℕ, drop, sym, ◌∙◌, subst, arith}
use Rattle.loose_addresses.specs.Angles.{NoAngle}
use Rattle.loose_addresses.specs.reading.AngleSteps.{Tells}
use Rattle.loose_addresses.proofs.AngleLemmas.{none_at_end, tells_at_end, drop_back, none_more}
use Rattle.loose_addresses.proofs.angles.last_open.Goals as goal

pub loop-at-init : goal.loop-at-init
loop-at-init c = record { within = omega arith; tells = tells_at_end c.args.text.now; none = none_at_end c.args.text.now }

pub loop-at-preserved : goal.loop-at-preserved
loop-at-preserved c =
    let t = c.args.text.now in
    let at = c.loop-at.at in
    let v = c.loop-at.invariant in
    let e = drop_back t at c.loop-at-test.true v.within in
    record {
      within = omega (arith, v.within);
      tells = subst (λ (u : List ℕ). Tells c.scan_before-scan.result u) (sym e) (c.scan_before-scan.ensures (drop at t) v.tells);
      none = subst (λ (u : List ℕ). NoAngle u) (sym e) (none_more _ (drop at t) v.none (sym (c.opens.ensures (drop at t) v.tells) ∙ c.if-opens.false));
    }
