use Rattle.std.proofs.Common.{◌∙◌, not, ap}
use Rattle.thread_rule.proofs.OnceLemmas.{any_key, key_put}
use Rattle.thread_rule.proofs.ids.is_new.Goals as goal

pub returns-clause-new : goal.returns-clause-new
returns-clause-new c = c.in_ok-insert.ensures.added ∙ ap not (any_key c.args.id.now c.args.seen.now.keys)

pub returns-clause-seen : goal.returns-clause-seen
returns-clause-seen c = λ other. rw c.in_ok-insert.ensures.keys (key_put other c.args.id c.args.seen.now.keys)
