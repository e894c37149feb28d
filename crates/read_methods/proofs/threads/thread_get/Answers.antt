use Rattle.serde_json.specs.View.{view}
use Rattle.jmap_arguments.specs.Ids.{thread_letter}
use Rattle.jmap_arguments.specs.State.{state_text}
use Rattle.jmap_arguments.proofs.GetLemmas.{whole_answered, whole_from}
use Rattle.served_maps.specs.Past.{served}
use Rattle.mail_maps.specs.Serve.{thread_of}
use Rattle.read_methods.specs.Threads.{threads_asked, thread_objects, threads_answer}
use Rattle.read_methods.proofs.OverHistory.{over_history}
use Rattle.read_methods.proofs.WholeLemmas.{whole_threads}
use Rattle.read_methods.proofs.threads.thread_get.Goals as goal

pub returns-clause-exact : goal.returns-clause-exact
returns-clause-exact c = λ h is.
    over_history thread_of c.args.state.now.rows.threads c.args.state.now.lists.thread h h.threads c.args.state.now.epoch
    (λ text rows. threads_answer text rows (view c.args.arguments.now))
    c.answer.result is.epoch is.threads c.answer.ensures

pub returns-clause-whole : goal.returns-clause-whole
returns-clause-whole c =
    let rows = served thread_of c.args.state.now.rows.threads in
    let text = state_text (record { epoch = c.args.state.now.epoch; place = c.args.state.now.lists.thread.place }) in
    whole_from c.answer.result (threads_answer text rows (view c.args.arguments.now)) c.answer.ensures
    (whole_answered thread_letter text (thread_objects rows) (threads_asked (view c.args.arguments.now)) (whole_threads rows))
