use Rattle.thread_rule.specs.reading.Index.{front, list_at}
use Rattle.thread_rule.proofs.IndexLemmas.{none_ascend}
use Rattle.thread_rule.proofs.search.shared.Goals as goal

pub returns-in-None-clause-ordered : goal.returns-in-None-clause-ordered
returns-in-None-clause-ordered c = none_ascend (list_at c.args.index.now (front c.args.key)) c.in-None.ensures
