use Rattle.serde_json.specs.View.{view}
use Rattle.jmap_arguments.specs.Ids.{thread_letter}
use Rattle.mail_maps.specs.Serve.{thread_of}
use Rattle.mail_state.specs.State.{IsStateOf}
use Rattle.read_methods.specs.Changes.{no_further}
use Rattle.read_methods.specs.Replies.{UpdatesThreads}
use Rattle.read_methods.proofs.ChangeLemmas.{over_history, up_to_date, wholly, under}
use Rattle.read_methods.proofs.WholeLemmas.{none_whole}
use Rattle.read_methods.proofs.changes.thread_changes.Goals as goal

pub returns-clause-exact : goal.returns-clause-exact
returns-clause-exact c = λ h is.
    over_history thread_of c.args.state.now.rows.threads thread_letter c.args.state.now.epoch h.epoch c.args.state.now.lists.thread h.threads no_further
    (view c.args.arguments.now) c.plain_changes.result is.epoch is.threads c.plain_changes.ensures

pub returns-clause-copies : goal.returns-clause-copies
returns-clause-copies c =
    under (λ h. IsStateOf h c.args.state.now) (λ h value. UpdatesThreads h (view c.args.arguments.now) (view value)) c.plain_changes.result
    (λ h is. up_to_date thread_letter h.epoch h.threads no_further (view c.args.arguments.now) c.plain_changes.result (returns-clause-exact c h is))

pub returns-clause-whole : goal.returns-clause-whole
returns-clause-whole c =
    wholly thread_letter c.args.state.now.epoch c.args.state.now.lists.thread no_further (view c.args.arguments.now) c.plain_changes.result none_whole c.plain_changes.ensures
