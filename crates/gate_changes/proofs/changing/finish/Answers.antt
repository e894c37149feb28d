use Rattle.std.proofs.Common.{◌≡◌, subst, List, Result, Vec, Global}
use Rattle.gate_world.specs.declared.event.Event.{Event}
use Rattle.gate_world.proofs.Joins.{widen}
use Rattle.gate_machine.specs.Progress.{Progress}
use Rattle.set_jobs.specs.declared.done.Done.{Done}
use Rattle.set_order.specs.Ordered as spec
use Rattle.set_order.specs.declared.item.Item.{Item}
use Rattle.set_calls.specs.Calls.{SetCall}
use Rattle.set_calls.specs.declared.call.CallEnd.{CallEnd}
use Rattle.set_calls.specs.reading.Calling.{came_data}
use Rattle.gate_changes.specs.Changing.{DoesCourse}
use Rattle.gate_changes.specs.reading.Asking.{IsAtEnd}
use Rattle.gate_changes.proofs.changing.finish.Goals as goal

abbrev Came : Type 0
Came = Result (Vec (Item × Done) Global) CallEnd

-- the same of what came
along : (call : SetCall) (items : List spec.Item) (before mid : Progress) (doing : List Event) (a b : Came) → a ≡ b → DoesCourse call items before (came_data a) doing mid
    → DoesCourse call items before (came_data b) doing mid
along call items before mid doing a b same does = subst (λ (r : Came). DoesCourse call items before (came_data r) doing mid) same does

pub returns-in-Ok-clause-run : goal.returns-in-Ok-clause-run
returns-in-Ok-clause-run g c =
    widen _ c.commit.ensures.run (λ es commits call items before mid doing was does came.
    commits call items before mid doing was (along call items before mid doing _ _ c.in-Ok.is does) tt
    (subst (λ (r : Came). IsAtEnd r c.args.machine.now c.args.client was (g.L.Taped.faults c.args.link.now) mid) c.in-Ok.is came))

pub returns-in-Err-clause-run : goal.returns-in-Err-clause-run
returns-in-Err-clause-run g c =
    widen _ c.finish_ended.ensures.run (λ es ends call items before mid doing was does came.
    ends call items before mid doing was (along call items before mid doing _ _ c.in-Err.is does)
    (subst (λ (r : Came). IsAtEnd r c.args.machine.now c.args.client was (g.L.Taped.faults c.args.link.now) mid) c.in-Err.is came))
