use Rattle.std.proofs.Common.{◌∙◌, not, ap}
use Rattle.jmap_arguments.proofs.OnceLemmas.{any_key, key_put}
use Rattle.jmap_arguments.proofs.gets.is_new.Goals as goal

pub returns-clause-new : goal.returns-clause-new
returns-clause-new c = c.in_ok-insert.ensures.added ∙ ap not (any_key c.args.text.now c.args.seen.now.keys)

pub returns-clause-seen : goal.returns-clause-seen
returns-clause-seen c = λ other. rw c.in_ok-insert.ensures.keys (key_put other c.args.text c.args.seen.now.keys)
