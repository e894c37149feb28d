use Rattle.std.proofs.Common.{Ok, Err}
use Rattle.set_calls.specs.declared.call.CallEnd.TheVariants as ends
use Rattle.set_calls.proofs.Steps.{steps_added}
use Rattle.set_calls.proofs.items.do_steps.Goals as goal

pub returns-in-Comes-clause-tape : goal.returns-in-Comes-clause-tape
returns-in-Comes-clause-tape g c =
    steps_added c.args.job c.args.client.now c.do_item.new.client c.args.mirror.now c.do_item.new.mirror c.args.changed.now c.do_item.new.changed
    (g.L.Taped.faults c.args.link.now).link (g.L.Taped.faults c.do_item.new.link).link (Ok c.in-Comes.done) c.in-Comes.ensures.tape

pub returns-in-Ends-clause-tape : goal.returns-in-Ends-clause-tape
returns-in-Ends-clause-tape g c =
    steps_added c.args.job c.args.client.now c.do_item.new.client c.args.mirror.now c.do_item.new.mirror c.args.changed.now c.do_item.new.changed
    (g.L.Taped.faults c.args.link.now).link (g.L.Taped.faults c.do_item.new.link).link (Err (ends.Fails c.in-Ends.error)) c.in-Ends.ensures.tape

pub returns-in-OutOfMemory-clause-tape : goal.returns-in-OutOfMemory-clause-tape
returns-in-OutOfMemory-clause-tape g c =
    steps_added c.args.job c.args.client.now c.do_item.new.client c.args.mirror.now c.do_item.new.mirror c.args.changed.now c.do_item.new.changed
    (g.L.Taped.faults c.args.link.now).link (g.L.Taped.faults c.do_item.new.link).link (Err ends.Memory) c.in-OutOfMemory.ensures.tape
