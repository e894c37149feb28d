use Rattle.serde_json.specs.View.{view}
use Rattle.mail_maps.specs.Serve.{thread_of}
use Rattle.read_methods.specs.Threads.{thread_data}
use Rattle.read_methods.proofs.ObjectLemmas.{none_at, some_at}
use Rattle.read_methods.proofs.threads.thread_at.Goals as goal

pub returns-in-None : goal.returns-in-None
returns-in-None c = none_at thread_of (thread_data c.args.wanted) c.args.state.now.rows.threads c.args.number c.in-None.ensures

pub returns-in_ok-thread_value-in-Some : goal.returns-in_ok-thread_value-in-Some
returns-in_ok-thread_value-in-Some c =
    some_at thread_of (thread_data c.args.wanted) c.args.state.now.rows.threads c.args.number c.in-Some.emails.now
    (view c.in_ok-thread_value-in-Some.field-0) c.in-Some.ensures c.in_ok-thread_value-in-Some.ensures
