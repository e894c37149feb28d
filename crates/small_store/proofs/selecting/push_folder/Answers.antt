use Rattle.std.proofs.Common.{ap, arith, length}
use Rattle.small_store.proofs.Fetching.{few_messages}
use Rattle.small_store.proofs.selecting.push_folder.Goals as goal

pub overflow_cast-messages : goal.overflow_cast-messages
overflow_cast-messages c = omega (arith, few_messages c.args.folder.now c.requires, ap length c.messages.ensures)
