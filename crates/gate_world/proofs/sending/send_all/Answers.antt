use Rattle.std.proofs.Common.{rules, take, ◌++◌, refl}
use Rattle.gate_world.proofs.Joins.{then_one, Hears-append, Hears-one}
use Rattle.gate_world.proofs.SendingLemmas.{moves}
use Rattle.gate_world.proofs.sending.send_all.Goals as goal

pub loop-rest-preserved : goal.loop-rest-preserved
loop-rest-preserved g c =
    record {
      tape = then_one _ c.loop-rest.invariant.tape c.in_ok-count.ensures.ok
          (λ x p. (p.0 ++ take c.in_ok-count.count c.loop-rest.rest.now, Hears-append p.1 (Hears-one _), moves p.0 c.loop-rest.rest.now _ c.in_ok-count.count _ p.2 refl));
      alone = search rules;
      hidden = search rules;
    }
