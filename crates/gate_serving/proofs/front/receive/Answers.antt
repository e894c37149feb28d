use Rattle.std.proofs.Common.{◌<◌, length, ap, arith, rules}
use Rattle.gate_world.proofs.Joins.{join}
use Rattle.gate_serving.proofs.Receiving.{piece_asked, piece_within}
use Rattle.gate_serving.proofs.front.receive.Goals as goal

pub receiving-preserved : goal.receiving-preserved
receiving-preserved g c =
    let short : length c.receiving.octets < c.args.most = omega (arith, c.receiving-test.true, ap length c.as_slice.ensures) in
    record {
      tape = join _ c.receiving.invariant.tape c.in_ok-fill_from_client.ensures.tape
          (λ x y asks tells. piece_asked y c.fill_from_client.new.self c.in_ok-fill_from_client.field-0 c.if-not-branch.false asks tells);
      within = piece_within c.receiving.octets c.fill_from_client.new.self c.as_slice-in-receiving.result.now c.args.most _ c.in_ok-fill_from_client.field-0 c.if-not-branch.false
          c.as_slice-in-receiving.ensures short c.in_ok-fill_from_client.ensures.octets;
      alone = search rules;
      hidden = search rules;
    }
