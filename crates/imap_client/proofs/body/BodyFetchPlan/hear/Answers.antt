use Rattle.imap_client.proofs.RoundSteps.{keeps_told}
use Rattle.imap_client.proofs.body.BodyFetchPlan.hear.Goals as goal

pub returns-in-Ok-clause-kept : goal.returns-in-Ok-clause-kept
returns-in-Ok-clause-kept c = λ first kept. keeps_told first.mirror c.args.self.now.mirror c.tell.new.self c.tell.ensures.counts c.tell.ensures.next kept

pub returns-in-Err-Memory-clause-kept : goal.returns-in-Err-Memory-clause-kept
returns-in-Err-Memory-clause-kept c = λ first kept. keeps_told first.mirror c.args.self.now.mirror c.tell.new.self c.tell.ensures.counts c.tell.ensures.next kept
