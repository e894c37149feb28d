use Rattle.std.proofs.Common.{ap, arith, length}
use Rattle.small_store.proofs.Fetching.{few_messages}
use Rattle.small_store.proofs.machine.read_messages.Goals as goal

pub told_of-requires-clause-count : goal.told_of-requires-clause-count
told_of-requires-clause-count c = omega (arith, few_messages c.args.folder.now c.requires, ap length c.messages-messages.ensures)

pub told_of-requires-in-FetchSlice-clause-count : goal.told_of-requires-in-FetchSlice-clause-count
told_of-requires-in-FetchSlice-clause-count c = omega (arith, few_messages c.args.folder.now c.requires, ap length c.messages-messages.ensures)

pub told_of-requires-in-FetchNew-clause-count : goal.told_of-requires-in-FetchNew-clause-count
told_of-requires-in-FetchNew-clause-count c = omega (arith, few_messages c.args.folder.now c.requires, ap length c.messages-messages.ensures)

pub told_of-requires-in-FetchBody-clause-count : goal.told_of-requires-in-FetchBody-clause-count
told_of-requires-in-FetchBody-clause-count c = omega (arith, few_messages c.args.folder.now c.requires, ap length c.messages-messages.ensures)
