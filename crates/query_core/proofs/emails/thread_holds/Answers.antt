use Rattle.query_conditions.specs.Entries.{emails_at}
use Rattle.query_core.proofs.FoundLemmas.{found_are, found_some}
use Rattle.query_core.proofs.emails.thread_holds.Goals as goal

pub returns-in-Some : goal.returns-in-Some
returns-in-Some c = λ has.
    let all = emails_at c.args.tested.now.emails.now in
    c.thread_matches.ensures all c.args.keyword.now
    (found_are all c.args.tested.now.found.now c.args.keyword.now c.threads_found.result c.in-Some.threads c.threads_found.ensures c.in-Some.is has)

pub returns-in-None : goal.returns-in-None
returns-in-None c = λ has.
    absurd (found_some (emails_at c.args.tested.now.emails.now) c.args.tested.now.found.now c.args.keyword.now c.threads_found.result c.threads_found.ensures c.in-None.is has)
