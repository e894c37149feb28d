use Rattle.thread_rule.proofs.PieceLemmas.{match_map, no_trailer, forwarded_trailer}
use Rattle.thread_rule.proofs.subject.before_trailer.Goals as goal

pub returns-in-None-clause-trailer : goal.returns-in-None-clause-trailer
returns-in-None-clause-trailer c =
    let s = c.args.text.now in
    match_map c.before_word.result (λ l. no_trailer s c.in-None.ensures l) (λ r d. forwarded_trailer s r.now d) c.before_word.ensures
