use Rattle.std.proofs.Common.{arith}
use Rattle.std.proofs.lemmas.Bool.Decides.{nat_tests}
use Rattle.gate_world.proofs.Joins.{none}
use Rattle.imap_exchange.proofs.Conversing.{offers_none, offers_down}
use Rattle.imap_exchange.proofs.sending.send_piece.Goals as goal

pub returns-in-None-clause-tape : goal.returns-in-None-clause-tape
returns-in-None-clause-tape g c = none _ _ (offers_none c.args.up c.args.taken.now c.args.pieces.now c.args.at c.if-not-up.false (grind (arith, nat_tests, c.get.ensures.lookup)))

pub returns-then-not-up-clause-tape : goal.returns-then-not-up-clause-tape
returns-then-not-up-clause-tape g c = none _ _ (offers_down c.args.up c.args.taken.now c.args.pieces.now c.args.at c.if-not-up.true)
