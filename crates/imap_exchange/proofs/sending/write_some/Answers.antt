use Rattle.std.proofs.Common.{rules, arith, ap, length, length-drop}
use Rattle.gate_world.proofs.Joins.{none, then_one, widen}
use Rattle.imap_exchange.proofs.Responses.{Talk-none}
use Rattle.imap_exchange.proofs.Conversing.{stopped, written, wrote_more}
use Rattle.imap_exchange.proofs.sending.write_some.Goals as goal

pub writing-init : goal.writing-init
writing-init g c = record { tape = none _ _ Talk-none; within = omega arith; alone = search rules; hidden = search rules }

pub writing-preserved : goal.writing-preserved
writing-preserved g c =
    record {
      tape = then_one _ c.writing.invariant.tape c.in-Ok.ensures.ok
          (λ x p. wrote_more c.args.octets.now c.split_at.result.1.now c.writing.count c.in-Ok.more c.split_at.ensures.back p);
      within = omega
          (arith, c.in-Ok.ensures.bound.1, ap length c.split_at.ensures.back, length-drop c.writing.count c.args.octets.now);
      alone = search rules;
      hidden = search rules;
    }

pub returns-in-Err-clause-tape : goal.returns-in-Err-clause-tape
returns-in-Err-clause-tape g c =
    then_one _ c.writing.invariant.tape c.in-Err.ensures.err (λ x p. stopped c.args.octets.now c.writing.count c.writing-test.true p)

pub returns-clause-tape : goal.returns-clause-tape
returns-clause-tape g c = widen _ c.writing.invariant.tape (λ x p. written c.args.octets.now c.writing.count c.writing.invariant.within c.writing-test.false p)
