use Rattle.std.proofs.Common.{refl, arith}
use Rattle.set_replies.proofs.StateLemmas.{state_named, none_named}
use Rattle.set_replies.proofs.states.is_state.Goals as goal

pub returns-in-Some : goal.returns-in-Some
returns-in-Some c = state_named c.args.epoch c.in-Some.named c.args.place c.args.text.now (omega arith) c.in-Some.ensures.some c.in-Some.ensures.one

pub returns-in-None : goal.returns-in-None
returns-in-None c = none_named c.args.epoch c.args.place c.args.text.now (omega arith) (c.in-None.ensures.none refl)
