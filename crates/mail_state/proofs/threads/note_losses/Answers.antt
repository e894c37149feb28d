use Rattle.mail_state.proofs.TouchedThreads.{none_left}
use Rattle.mail_state.proofs.threads.note_losses.Goals as goal

pub returns-then-is_empty : goal.returns-then-is_empty
returns-then-is_empty c = λ t. none_left c.args.gone.now c.args.threads.now.entries t _ (c.is_empty.ensures.0 c.if-is_empty.true)
