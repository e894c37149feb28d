use Rattle.gate_world.proofs.Joins.{widen}
use Rattle.std.proofs.Common.{map}
use Rattle.set_order.specs.reading.Items.{item_data}
use Rattle.gate_changes.specs.Answering.{call_of}
use Rattle.gate_changes.proofs.Replying.{is_over}
use Rattle.gate_changes.proofs.answering.answer_items.Goals as goal

pub returns-clause-run : goal.returns-clause-run
returns-clause-run g c =
    widen _ c.change_mail-changed.ensures.run (λ es changes all a h start was check created_is before_is is keys of so at.
    c.answered_by.ensures.answers all a h start (map item_data c.args.items.now) was _ es before_is created_is is of
    (changes (call_of all c.args.method a h start.created) start.progress was created_is keys check (is_over all c.args.method a h start.created start.progress so) at))
