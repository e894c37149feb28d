use Rattle.mail_state.proofs.TouchedThreads.{steps_threads, threads_stay}
use Rattle.mail_state.proofs.threads.follow_threads.Goals as goal

pub returns-then-is_empty : goal.returns-then-is_empty
returns-then-is_empty c = λ stay.
    threads_stay c.args.old.entries c.args.emails.now.entries c.args.touches.now _ c.in_ok-among.among c.in_ok-among.ensures (c.is_empty.ensures.0 c.if-is_empty.true)
    c.len-before.ensures.ordered c.new.ensures.items stay

pub returns : goal.returns
returns c = λ stay.
    steps_threads c.args.old.entries c.in_ok-fresh.fresh.entries c.in_ok-threads.threads.entries c.args.emails.now.entries c.args.touches.now c.in_ok-steps.steps.items
    c.in_ok-among.among
    c.in_ok-among.ensures c.in_ok-fresh.ensures c.in_ok-threads.ensures c.in_ok-steps.ensures c.len-count.ensures.ordered stay
