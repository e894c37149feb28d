use Rattle.std.proofs.Common.{Bool, List, ℕ, ◌++◌, true, false, subst}
use Rattle.gate_world.proofs.Joins.{join, widen}
use Rattle.imap_exchange.specs.reading.Sending.{Offers}
use Rattle.imap_exchange.proofs.Conversing.{offers_both, offers_front}
use Rattle.imap_exchange.proofs.sending.is_sent.Goals as goal

pub returns-then-not-is_written-clause-tape : goal.returns-then-not-is_written-clause-tape
returns-then-not-is_written-clause-tape g c =
    widen _ c.is_written.ensures.tape
    (λ x o. subst (λ (t : List ℕ). Offers true false c.args.taken.now c.is_written.new.taken t x) c.parts.ensures
    (offers_front c.args.taken.now c.is_written.new.taken c.parts.result.0.now c.parts.result.1.now
    (subst (λ (b : Bool). Offers true b c.args.taken.now c.is_written.new.taken c.parts.result.0.now x) c.if-not-is_written.true o)))

pub returns-clause-tape : goal.returns-clause-tape
returns-clause-tape g c =
    join _ c.is_written.ensures.tape c.is_written-2.ensures.tape
    (λ x y o p. subst (λ (t : List ℕ). Offers true c.is_written-2.result c.args.taken.now c.is_written-2.new.taken t (x ++ y)) c.parts.ensures
    (offers_both c.is_written-2.result c.args.taken.now c.is_written.new.taken c.is_written-2.new.taken c.parts.result.0.now c.parts.result.1.now
    (subst (λ (b : Bool). Offers true b c.args.taken.now c.is_written.new.taken c.parts.result.0.now x) c.if-not-is_written.false o) p))
