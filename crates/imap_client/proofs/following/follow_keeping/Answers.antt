use Rattle.std.proofs.Common.{rules, arith, ◌≡◌, ◌∙◌, refl, sym, false}
use Rattle.std.proofs.lemmas.Result.{err_from_is_err_and}
use Rattle.imap_client.proofs.PlanSteps.{course_none, course_more, course_broken, course_gone, course_fails, course_wants, course_wants_more, course_done, course_alive}
use Rattle.imap_client.proofs.following.follow_keeping.Goals as goal

pub following-init : goal.following-init
following-init g c =
    record {
      course = course_none g.P.Plan.plan g.P.Plan.hears c.args.plan.now c.args.client.now _ c.requires.alive;
      kept = c.requires.kept;
      torn = refl;
      down = λ is. absurd (cc (is, c.requires.alive));
      alone = search rules;
      hidden = search rules;
    }

pub returns-then-not-alive-clause-tape : goal.returns-then-not-alive-clause-tape
returns-then-not-alive-clause-tape g c =
    let is = rw c.in-Ok-Send.field-0-is at c.in-Ok-Send.ensures in
    let dead : c.following.client.alive ≡ false = sym c.alive.ensures ∙ c.if-not-alive.true in
    course_gone c.in-Ok-Send.command c.leave.new.self c.following.torn c.following.unread.octets c.following.invariant.torn is c.leave.ensures.left dead c.following.invariant.course c.leave.ensures.tape

pub returns-in_err-x-in-Ok-Send-clause-tape : goal.returns-in_err-x-in-Ok-Send-clause-tape
returns-in_err-x-in-Ok-Send-clause-tape g c =
    let is = rw c.in-Ok-Send.field-0-is at c.in-Ok-Send.ensures in
    let ends = err_from_is_err_and c.from_residual.result c.from_residual.ensures.1 in
    rw (ends.1, ends.2) (course_broken c.in-Ok-Send.command c.in_err-x-in-Ok-Send.field-0.0 c.exchange_keeping.new.self c.exchange_keeping.new.torn c.exchange_keeping.new.unread.octets is c.following.invariant.course c.in_err-x-in-Ok-Send.ensures.tape)

pub following-preserved : goal.following-preserved
following-preserved g c =
    let is = rw c.in-Ok-Send.field-0-is at c.in-Ok-Send.ensures in
    record {
      course = course_more c.hear.new.self c.in-Ok-Send.command c.in_ok-x-in-Ok-Send.x c.exchange_keeping.new.self c.exchange_keeping.new.torn c.exchange_keeping.new.unread.octets is c.following.invariant.course c.in_ok-x-in-Ok-Send.ensures.tape
          c.in_ok-x-in-Ok-Send.ensures.alive c.in-Ok.ensures.rest c.in-Ok.ensures.heard;
      kept = c.hear.ensures.kept c.args.plan.now c.following.invariant.kept;
      torn = c.in_ok-x-in-Ok-Send.ensures.whole;
      down = λ dead. omega (arith, c.in_ok-x-in-Ok-Send.ensures.down dead, c.following.invariant.alone.link);
      alone = search rules;
      hidden = search rules;
    }

pub returns-in-Err-hear-clause-tape : goal.returns-in-Err-hear-clause-tape
returns-in-Err-hear-clause-tape g c =
    let is = rw c.in-Ok-Send.field-0-is at c.in-Ok-Send.ensures in
    course_wants_more c.hear.new.self c.in-Ok-Send.command c.in_ok-x-in-Ok-Send.x c.leave-in-Err-hear.new.self c.exchange_keeping.new.torn c.exchange_keeping.new.unread.octets c.in_ok-x-in-Ok-Send.ensures.whole is c.leave-in-Err-hear.ensures.left c.following.invariant.course
    c.in_ok-x-in-Ok-Send.ensures.tape c.leave-in-Err-hear.ensures.tape

pub returns-in-Ok-Fails-clause-tape : goal.returns-in-Ok-Fails-clause-tape
returns-in-Ok-Fails-clause-tape g c =
    let is = rw c.in-Ok-Fails.field-0-is at c.in-Ok-Fails.ensures in
    rw c.end_of.ensures (course_fails c.in-Ok-Fails.why c.leave-in-Ok-Fails.new.self c.following.torn c.following.unread.octets c.following.invariant.torn is c.leave-in-Ok-Fails.ensures.left c.following.invariant.course
    c.leave-in-Ok-Fails.ensures.tape)

pub returns-in-Err-clause-tape : goal.returns-in-Err-clause-tape
returns-in-Err-clause-tape g c = course_wants c.following.plan c.leave-in-Err.new.self c.following.torn c.following.unread.octets c.following.invariant.torn c.leave-in-Err.ensures.left c.following.invariant.course c.leave-in-Err.ensures.tape

pub returns-in-Ok-Done-clause-tape : goal.returns-in-Ok-Done-clause-tape
returns-in-Ok-Done-clause-tape g c =
    let is = rw c.in-Ok-Done.field-0-is at c.in-Ok-Done.ensures in
    course_done c.following.torn c.following.unread.octets c.following.invariant.torn is c.following.invariant.course

pub returns-in-Ok-Done-clause-alive : goal.returns-in-Ok-Done-clause-alive
returns-in-Ok-Done-clause-alive g c =
    let is = rw c.in-Ok-Done.field-0-is at c.in-Ok-Done.ensures in
    course_alive is c.following.invariant.course
