use Rattle.std.proofs.Common.{◌<◌, length, ap, arith, rules, inr}
use Rattle.std.proofs.lemmas.Result.{err_from_is_err_and}
use Rattle.gate_world.proofs.Joins.{join}
use Rattle.http_service.specs.Taking.{Octets}
use Rattle.http_service.proofs.TakingLemmas.{one_more, not_filled}
use Rattle.http_service.proofs.LineReadingLemmas.{enough, data_outside}
use Rattle.http_service.proofs.filling.fill_to.Goals as goal

pub returns-in_err-fill-clause-tape : goal.returns-in_err-fill-clause-tape
returns-in_err-fill-clause-tape g c =
    let is = err_from_is_err_and c.from_residual.result c.from_residual.ensures.1 in
    let short : length c.filling.spare < c.args.size = omega (arith, c.filling-test.true, ap length c.as_slice.ensures) in
    rw (is.1, is.2) (join _ c.filling.invariant.tape c.in_err-fill.ensures.tape (λ x y so fills.
    let stops = not_filled y (Octets c.args.size) c.fill.new.spare c.in_err-fill.field-0.0 so.0 short fills in
    (stops.0, stops.1, stops.2, data_outside c.args.size c.in_err-fill.field-0.0 stops.3)))

pub filling-preserved : goal.filling-preserved
filling-preserved g c =
    let short : length c.filling.spare < c.args.size = omega (arith, c.filling-test.true, ap length c.as_slice.ensures) in
    let more = enough c.filling.spare c.fill.new.spare c.as_slice-in-filling.result.now c.args.size c.in_ok-fill.field-0 c.if-not-branch.false c.as_slice-in-filling.ensures short
    c.in_ok-fill.ensures.grows in
    record {
      tape = join _ c.filling.invariant.tape c.in_ok-fill.ensures.tape
          (λ x y so fills. (one_more y (Octets c.args.size) c.fill.new.spare c.in_ok-fill.field-0 c.if-not-branch.false so.0 short fills (omega (arith, more.0)), inr more.0));
      alone = search rules;
      hidden = search rules;
    }
