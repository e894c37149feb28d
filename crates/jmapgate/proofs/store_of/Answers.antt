use Rattle.std.proofs.Common.{◌∙◌, Err, ap}
use Rattle.jmapgate.proofs.Devices.{names_store, names_no_store}
use Rattle.jmapgate.proofs.store_of.Goals as goal

pub returns-in-Ok : goal.returns-in-Ok
returns-in-Ok c = names_store c.args.read.now c.in-Ok.task c.in-Ok.is c.task_store.result c.task_store.ensures

pub returns-in_ok-refused-in-Err : goal.returns-in_ok-refused-in-Err
returns-in_ok-refused-in-Err c = names_no_store c.args.read.now c.no_store.result (c.in-Err.is ∙ ap Err c.in_ok-refused-in-Err.ensures) c.no_store.ensures
