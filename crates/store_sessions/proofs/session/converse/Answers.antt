use Rattle.std.proofs.Common.{refl, rules, arith}
use Rattle.std.proofs.lemmas.Result.{err_from_is_err_and}
use Rattle.gate_world.proofs.Joins.{join, none}
use Rattle.store_sessions.proofs.Conversing.{begins, breaks, comes, ends, fills_up, input_ends, join_three, nothing_comes, read_on}
use Rattle.store_sessions.proofs.session.converse.Goals as goal

pub loop-unread-init : goal.loop-unread-init
loop-unread-init g c = record {
  tape = none _ _ (record { came = 0; so_far = begins _ _ c.new-unread.ensures; count = refl });
  left = omega arith;
  mail = c.requires.mail;
  alone = search rules;
  hidden = refl;
}

pub returns-in_err-step-clause-tape : goal.returns-in_err-step-clause-tape
returns-in_err-step-clause-tape g c =
    let is = err_from_is_err_and c.from_residual.result c.from_residual.ensures.1 in
    rw (is.1, is.2) (join _ c.loop-unread.invariant.tape c.in_err-step.ensures.tape (λ x y so step. breaks so step))

pub loop-unread-preserved-in-Read : goal.loop-unread-preserved-in-Read
loop-unread-preserved-in-Read g c = record {
  tape = join _ c.loop-unread.invariant.tape c.in_ok-step.ensures.tape (λ x y so step. read_on so c.in-Read.is step);
  left = c.loop-unread.invariant.left;
  mail = c.step.ensures.mail;
  alone = search rules;
  hidden = search rules;
}

pub returns-in-End-clause-tape : goal.returns-in-End-clause-tape
returns-in-End-clause-tape g c = join _ c.loop-unread.invariant.tape c.in_ok-step.ensures.tape (λ x y so step. ends so c.in-End.is step)

pub returns-then-left-eq0-clause-tape : goal.returns-then-left-eq0-clause-tape
returns-then-left-eq0-clause-tape g c =
    join _ c.loop-unread.invariant.tape c.in_ok-step.ensures.tape (λ x y so step. fills_up so c.in-Wait.is c.if-left-eq0.true step)

pub returns-in_err-came-in-Wait-clause-tape : goal.returns-in_err-came-in-Wait-clause-tape
returns-in_err-came-in-Wait-clause-tape g c =
    let is = err_from_is_err_and c.from_residual-in_err-came-in-Wait.result c.from_residual-in_err-came-in-Wait.ensures.1 in
    rw (is.1, is.2) (join_three _ c.loop-unread.invariant.tape c.in_ok-step.ensures.tape c.in_err-came-in-Wait.ensures.tape
    (λ x y z so step given. nothing_comes _ _ z so c.in-Wait.is c.if-left-eq0.false step given))

pub returns-then-came-eq0-clause-tape : goal.returns-then-came-eq0-clause-tape
returns-then-came-eq0-clause-tape g c =
    join_three _ c.loop-unread.invariant.tape c.in_ok-step.ensures.tape c.in_ok-came-in-Wait.ensures.tape
    (λ x y z so step given. input_ends _ _ z so c.in-Wait.is c.if-left-eq0.false step given c.if-came-eq0.true)

pub loop-unread-preserved : goal.loop-unread-preserved
loop-unread-preserved g c = record {
  tape = join_three _ c.loop-unread.invariant.tape c.in_ok-step.ensures.tape c.in_ok-came-in-Wait.ensures.tape
      (λ x y z so step given. comes _ _ z so c.in-Wait.is step given c.if-came-eq0.false c.in_ok-came-in-Wait.ensures.bound);
  left = omega (arith, c.loop-unread.invariant.left);
  mail = c.step.ensures.mail;
  alone = search rules;
  hidden = search rules;
}
