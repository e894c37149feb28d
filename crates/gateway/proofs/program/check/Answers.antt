use Rattle.std.proofs.Common.{◌∙◌}
use Rattle.gate_world.proofs.Joins.{join, widen}
use Rattle.gateway.proofs.Performing.{check_named, later_link, lacks_check, performs_check, rose_link}
use Rattle.gateway.proofs.program.check.Goals as goal

pub returns-in-Err-clause-run : goal.returns-in-Err-clause-run
returns-in-Err-clause-run g c = widen _ c.in-Err.ensures.tape (λ x lacks. check_named (c.as_bytes.ensures.value ∙ c.as_str.ensures)
    (c.as_bytes-2.ensures.value ∙ c.as_str-2.ensures) (lacks_check lacks c.in-Err.ensures.alone))

pub returns-in-Ok-clause-run : goal.returns-in-Ok-clause-run
returns-in-Ok-clause-run g c =
    join _ c.in-Ok.ensures.tape c.tell_report.ensures.told
    (λ x y report tells. check_named (c.as_bytes.ensures.value ∙ c.as_str.ensures) (c.as_bytes-2.ensures.value ∙ c.as_str-2.ensures)
    (performs_check y report.0 report.1 c.in-Ok.ensures.alone c.tell_report.ensures.later c.tell_report.ensures.front tells))

pub returns-in-Ok-clause-front : goal.returns-in-Ok-clause-front
returns-in-Ok-clause-front g c = λ six. rose_link (g.W.Taped.faults c.args.world.now) (g.W.Taped.faults c.report_on.new.world) (g.W.Taped.faults c.tell_report.new.world) c.in-Ok.ensures.alone (c.tell_report.ensures.front six)

pub returns-in-Ok-clause-later : goal.returns-in-Ok-clause-later
returns-in-Ok-clause-later g c = later_link (g.W.Taped.faults c.args.world.now) (g.W.Taped.faults c.report_on.new.world) (g.W.Taped.faults c.tell_report.new.world) c.in-Ok.ensures.alone c.tell_report.ensures.later
