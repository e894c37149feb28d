use Rattle.std.proofs.Common.{◌∙◌, Err, ap}
use Rattle.jmapgate.proofs.Devices.{listens, listens_not}
use Rattle.jmapgate.proofs.listening_of.Goals as goal

pub returns-in-Ok : goal.returns-in-Ok
returns-in-Ok c = listens c.args.read.now c.in-Ok.task c.in-Ok.is c.task_listening.result c.task_listening.ensures

pub returns-in_ok-refused-in-Err : goal.returns-in_ok-refused-in-Err
returns-in_ok-refused-in-Err c = listens_not c.args.read.now (c.in-Err.is ∙ ap Err c.in_ok-refused-in-Err.ensures)
