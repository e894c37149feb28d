use Rattle.std.proofs.Common.{ap, arith, length}
use Rattle.small_store.proofs.Fetching.{few_messages}
use Rattle.small_store.proofs.selecting.push_changes.Goals as goal

pub push_fetches-requires-clause-count : goal.push_fetches-requires-clause-count
push_fetches-requires-clause-count c = omega (arith, few_messages c.args.folder.now c.requires, ap length c.messages.ensures)
