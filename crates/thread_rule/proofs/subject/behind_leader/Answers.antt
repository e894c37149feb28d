use Rattle.thread_rule.proofs.PieceLemmas.{match_map}
use Rattle.thread_rule.proofs.LeaderLemmas.{no_leader, leader_of_mark}
use Rattle.thread_rule.proofs.subject.behind_leader.Goals as goal

pub returns-in-None-clause-leader : goal.returns-in-None-clause-leader
returns-in-None-clause-leader c =
    let s = c.args.text.now in
    match_map c.behind_marked.result (λ l. no_leader s c.in-None.ensures l) (λ r d. leader_of_mark s r.now d) c.behind_marked.ensures
