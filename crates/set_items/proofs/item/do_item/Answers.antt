use Rattle.std.proofs.Common.{refl}
use Rattle.gate_world.proofs.Joins.{widen}
use Rattle.set_items.proofs.ItemSteps.{item_done}
use Rattle.set_items.proofs.item.do_item.Goals as goal

pub returns-clause-tape : goal.returns-clause-tape
returns-clause-tape g c =
    widen _ c.run_plan-result.ensures.tape (λ x so life stands call call_is.
    let f = so life stands in (
      f.0,
      item_done c.args.job call c.args.mirror.now c.run_plan-result.new.plan.mirror
          (record { stage = c.going.result; mirror = c.replace.result; changed = c.args.changed.now }) c.run_plan-result.new.plan c.run_plan-result.result
          c.run_plan-result.new.torn c.args.changed.now c.end_by.result _ _ c.going.ensures c.replace.ensures.value refl call_is refl f.1 f.2 c.end_by.ensures f.3,
    ))
