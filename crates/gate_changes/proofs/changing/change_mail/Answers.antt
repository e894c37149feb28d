use Rattle.std.proofs.Common.{map}
use Rattle.gate_world.proofs.Joins.{join}
use Rattle.set_order.specs.reading.Items.{item_data}
use Rattle.gate_changes.proofs.changing.change_mail.Goals as goal

pub returns-clause-run : goal.returns-clause-run
returns-clause-run g c =
    join _ c.do_course-came.ensures.run c.finish.ensures.run (λ x y does ends call before was created making check over came.
    let d = does call before was created making check over came in
    ends call (map item_data c.args.items.now) before d.mid x was d.does d.at)
