use Rattle.std.proofs.Common.{◌∙◌, ap}
use Rattle.gate_world.proofs.Joins.{widen}
use Rattle.gate_changes.specs.reading.Asking.{call_rules}
use Rattle.gate_changes.proofs.Course.{row_came}
use Rattle.gate_changes.proofs.changing.do_course.Goals as goal

pub returns-in-Set-clause-run : goal.returns-in-Set-clause-run
returns-in-Set-clause-run g c =
    widen _ c.do_items.ensures.run (λ es does call before was created making rules over came.
    row_came c.in-Set.checks c.do_items.result.0 c.do_items.new.machine c.do_items.result.1 was (g.L.Taped.faults c.do_items.new.link) (rules ∙ ap call_rules c.in-Set.is)
    (does call before was created making (rules ∙ ap call_rules c.in-Set.is) over came))

pub returns-in-Import-clause-run : goal.returns-in-Import-clause-run
returns-in-Import-clause-run g c =
    widen _ c.import_items.ensures.run (λ es does call before was created making rules over came.
    does call before was created making (rules ∙ ap call_rules c.in-Import.is) over came)
