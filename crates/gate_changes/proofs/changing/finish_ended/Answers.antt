use Rattle.std.proofs.Common.{◌≡◌, ◌++◌, [], sym, subst, List, Err}
use Rattle.gate_world.specs.declared.event.Event.{Event}
use Rattle.gate_world.proofs.Joins.{none, widen}
use Rattle.gate_machine.specs.Progress.{Progress}
use Rattle.gate_machine.specs.declared.machine.Machine.{Machine}
use Rattle.gate_machine.specs.declared.mail_status.MailStatus.TheVariants.{OutOfMemory}
use Rattle.set_order.specs.Ordered.{Item}
use Rattle.set_calls.specs.Calls.{SetCall}
use Rattle.set_calls.specs.declared.call.CallEnd.{CallEnd}
use Rattle.set_calls.specs.declared.call.CallEnd.TheVariants as ends
use Rattle.set_calls.specs.reading.Calling.{call_end}
use Rattle.gate_changes.specs.Changing.{DoesCourse}
use Rattle.gate_changes.specs.reading.Asking.{ChangesTo, IsAtEnd}
use Rattle.gate_changes.proofs.Settling.{lacked_items}
use Rattle.gate_changes.proofs.changing.finish_ended.Goals as goal

-- the same of how it ended
along : (call : SetCall) (items : List Item) (before mid : Progress) (doing : List Event) (a b : CallEnd) → a ≡ b → DoesCourse call items before (Err (call_end a)) doing mid
    → DoesCourse call items before (Err (call_end b)) doing mid
along call items before mid doing a b same does = subst (λ (e : CallEnd). DoesCourse call items before (Err (call_end e)) doing mid) same does

pub returns-in-Fails-clause-run : goal.returns-in-Fails-clause-run
returns-in-Fails-clause-run g c =
    widen _ c.finish_failed.ensures.run (λ es fails call items before mid doing was does came.
    fails call items before mid doing was (along call items before mid doing _ _ c.in-Fails.is does)
    (subst (λ (e : CallEnd). IsAtEnd (Err e) c.args.machine.now c.args.client was (g.L.Taped.faults c.args.link.now) mid) c.in-Fails.is came))

pub returns-in-Memory-clause-run : goal.returns-in-Memory-clause-run
returns-in-Memory-clause-run g c =
    none _ _ (λ call items before mid doing was does came.
    subst (λ (m : Machine). ChangesTo call items before (Err ends.Memory) m c.args.client OutOfMemory was (g.L.Taped.faults c.args.link.now) (doing ++ [])) (sym c.forget.ensures)
    (lacked_items call items before mid doing was c.args.machine.now c.args.client (g.L.Taped.faults c.args.link.now)
    (along call items before mid doing _ _ c.in-Memory.is does)
    (subst (λ (e : CallEnd). IsAtEnd (Err e) c.args.machine.now c.args.client was (g.L.Taped.faults c.args.link.now) mid) c.in-Memory.is came)))
