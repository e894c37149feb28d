use Rattle.thread_rule.specs.reading.Keys.{key_under}
use Rattle.thread_rule.proofs.key.key_under.Goals as goal

pub returns : goal.returns
unfolding key_under
returns c = cc
