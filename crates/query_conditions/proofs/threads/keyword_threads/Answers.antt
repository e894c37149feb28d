use Rattle.std.proofs.Common.{◌∙◌, ap, not}
use Rattle.query_conditions.proofs.ThreadLemmas.{some_is, all_is}
use Rattle.query_conditions.proofs.threads.keyword_threads.Goals as goal

pub returns : goal.returns
returns c = record {
  having = λ thread. c.in_ok-having.ensures thread ∙ some_is c.args.keyword.now thread c.args.emails.now;
  lacking = λ thread. ap not (c.in_ok-lacking.ensures thread) ∙ all_is c.args.keyword.now thread c.args.emails.now;
}
