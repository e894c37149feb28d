use Rattle.std.proofs.Common.{length}
use Rattle.small_responses.specs.Tellable.{IsTellableMail}
use Rattle.store_world.proofs.Replying.{Stands}
use Rattle.store_world.proofs.replies.reply.Given as goal

-- the commands so far were answered
abbrev pub invariant-loop-turn : goal.invariant-loop-turn
invariant-loop-turn g l = record {
  mail : IsTellableMail (g.S.CommandStore.session l.store).mail;
  stands : Stands (g.S.CommandStore.session l.fn.store) l.fn.unread l.fn.ready (g.S.CommandStore.session l.store) l.unread l.ready;
}

abbrev pub decreases-loop-turn : goal.decreases-loop-turn
decreases-loop-turn g l = length l.unread
